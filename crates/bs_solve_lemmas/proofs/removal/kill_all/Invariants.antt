use Rattle.std.proofs.Common.{◌≡◌, take}
use Rattle.bs_solve_lemmas.specs.Notes.{HasKilled}
use Rattle.bs_solve_lemmas.proofs.removal.kill_all.Given as goal

abbrev pub invariant-clauses : goal.invariant-clauses
invariant-clauses l = record {
  killed : HasKilled l.initial.arena.clauses l.arena.clauses (take l.at l.clauses);
  places : l.arena.places ≡ l.initial.arena.places;
  words : l.arena.words ≡ l.initial.arena.words;
  spare : l.arena.spare ≡ l.initial.arena.spare;
}
