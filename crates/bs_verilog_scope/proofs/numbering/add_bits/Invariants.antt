use Rattle.std.proofs.Common.{◌≡◌, ◌≤◌, ◌-◌, ◌+◌, length}
use Rattle.std.proofs.Common.{Some}
use Rattle.bs_verilog_scope.specs.Keys.{keys}
use Rattle.bs_verilog_scope.specs.Nets.{with_keys}
use Rattle.bs_verilog_scope.proofs.NumberLemmas.{keys_from}
use Rattle.bs_verilog_scope.proofs.numbering.add_bits.Given as goal

abbrev pub invariant-bits : goal.invariant-bits
invariant-bits l =
    (length l.names + (l.count - l.bit) ≤ 100000)
    × (with_keys l.names (keys_from l.name l.range l.bit) ≡ with_keys l.initial.names (keys l.name (Some l.range)))
