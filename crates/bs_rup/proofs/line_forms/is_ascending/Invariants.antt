use Rattle.std.proofs.Common.{◌≡◌, ◌-◌, drop}
use Rattle.bs_log.specs.Refusal.{is_ascending}
use Rattle.bs_rup.proofs.line_forms.is_ascending.Given as goal

abbrev pub invariant-loop-i : goal.invariant-loop-i
invariant-loop-i l = is_ascending l.ids ≡ is_ascending (drop (l.i - 1) l.ids)
