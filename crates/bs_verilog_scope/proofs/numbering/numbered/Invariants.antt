use Rattle.std.proofs.Common.{◌≡◌, [], length, drop}
use Rattle.std.specs.List.{flat_map}
use Rattle.bs_verilog_scope.specs.Declaring.{keys_of}
use Rattle.bs_verilog_scope.specs.Nets.{with_keys}
use Rattle.bs_verilog_scope.proofs.NumberLemmas.{IsFew}
use Rattle.bs_verilog_scope.proofs.numbering.numbered.Given as goal

abbrev pub invariant-nets : goal.invariant-nets
invariant-nets l =
    IsFew l.table (length l.names) (drop l.net-index l.nets)
    × (with_keys l.names (flat_map (keys_of l.table) (drop l.net-index l.nets)) ≡ with_keys [] (flat_map (keys_of l.table) l.nets))
