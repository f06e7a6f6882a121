use Rattle.std.proofs.Common.{◌≡◌, take}
use Rattle.std.specs.Prelude.{count_by}
use Rattle.std.specs.List.{filter}
use Rattle.bs_solve_lemmas.specs.Keeping.{is_long_row, goes}
use Rattle.bs_solve_lemmas.specs.Notes.{IsNoted}
use Rattle.bs_solve_lemmas.proofs.selection.collect.Given as goal

abbrev pub invariant-loop-place : goal.invariant-loop-place
invariant-loop-place l = record {
  noted : IsNoted l.arena.clauses (filter (goes l.activations.own l.activations.steps l.arena.clauses l.rows) (take l.place l.rows))
      l.found.ids l.found.clauses.items l.found.watched.items;
  seen : l.seen ≡ count_by (is_long_row l.activations.own l.activations.steps l.arena.clauses) (take l.place l.rows);
  start : l.found.start ≡ l.from;
}
