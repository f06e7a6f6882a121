use Rattle.std.proofs.Common.{◌≡◌, ◌+◌, ◌≤◌, take}
use Rattle.std.specs.Prelude.{count_by}
use Rattle.bs_solve_lemmas.specs.Keeping.{is_long_row}
use Rattle.bs_solve_lemmas.proofs.rule.count_long.Given as goal

abbrev pub invariant-loop-place : goal.invariant-loop-place
invariant-loop-place l = record {
  counted : l.count + count_by (is_long_row l.activations.own l.activations.steps l.arena.clauses) (take l.from l.rows)
      ≡ count_by (is_long_row l.activations.own l.activations.steps l.arena.clauses) (take l.place l.rows);
  few : l.count ≤ l.place;
}
