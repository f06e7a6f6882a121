use Rattle.std.proofs.Common.{◌≡◌, ◌≤◌, drop}
use Rattle.bs_verilog_scope.specs.Declaring.{first_over}
use Rattle.bs_verilog_scope.proofs.numbering.first_over.Given as goal

abbrev pub invariant-nets : goal.invariant-nets
invariant-nets l = (l.count ≤ 100000) × (first_over l.table l.count (drop l.net-index l.nets) ≡ first_over l.table 0 l.nets)
