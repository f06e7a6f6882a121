use Rattle.std.proofs.Common.{◌≡◌, true, take, leb}
use Rattle.std.specs.List.{list_all}
use Rattle.bs_rup.proofs.line_forms.is_over.Given as goal

abbrev pub invariant-loop-l : goal.invariant-loop-l
invariant-loop-l l = list_all (λ x. leb x.variable l.vars) (take l.l-index l.lits) ≡ true
