use Rattle.std.proofs.Common.{◌≡◌, drop}
use Rattle.std.specs.List.{list_any}
use Rattle.bs_inspect_netlist.proofs.dumped.has_mark.Given as goal

abbrev pub invariant-marks : goal.invariant-marks
invariant-marks l = list_any (λ m. m) l.marks ≡ list_any (λ m. m) (drop l.i l.marks)
