use Rattle.std.proofs.Common.{ℕ, ◌<◌, ◌≤◌, ◌≡◌, not, length, take, Some}
use Rattle.std.specs.Prelude.{All, slice_get}
use Rattle.bs_solve_lemmas.specs.Notes.{IsThinned}
use Rattle.bs_solve_lemmas.specs.Ids.{is_among}
use Rattle.bs_solve_lemmas.proofs.ids.take_out_from.Given as goal

abbrev pub invariant-ids : goal.invariant-ids
invariant-ids l = record {
  thinned : IsThinned (λ id. not (is_among l.gone id)) l.initial.ids.items l.ids.items l.place l.kept;
  low : l.next ≤ length l.gone;
  less : (j id : ℕ) → l.place ≤ j → slice_get l.initial.ids.items j ≡ Some id → All (λ d. d < id) (take l.next l.gone);
}
