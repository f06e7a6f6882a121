use Rattle.std.proofs.Common.{ℕ, ◌<◌, ◌≤◌, get_or, None}
use Rattle.bs_flat_meaning.specs.Places.{past}
use Rattle.bs_flat_meaning.proofs.places.bound.Given as goal

abbrev pub invariant-ids : goal.invariant-ids
invariant-ids l = (k : ℕ) → k < l.id-index → past (get_or l.ids k None) ≤ l.bound
