use Rattle.std.proofs.Common.{◌≡◌, ◌+◌, ◌≤◌, map, take, drop}
use Rattle.bs_arena.specs.Arena.{literal_of}
use Rattle.bs_solve_lemmas.specs.Reasons.{last_start}
use Rattle.bs_solve_lemmas.specs.Marks.{marks_in, HasMarked}
use Rattle.bs_solve_lemmas.proofs.marking.mark_codes.Given as goal

abbrev pub invariant-loop-place : goal.invariant-loop-place
invariant-loop-place l = record {
  marked : HasMarked l.initial.marks l.marks (take l.place (map literal_of l.codes));
  count : marks_in l.marks (drop (last_start l.watch.levels) l.watch.trail.places)
      ≡ l.ahead + marks_in l.initial.marks (drop (last_start l.watch.levels) l.watch.trail.places);
  low : l.ahead ≤ l.place;
}
