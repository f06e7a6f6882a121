use Rattle.std.proofs.Common.{◌≡◌, ◌-◌, ◌≤◌, vec_len}
use Rattle.std.specs.Prelude.{vec_capacity}
use Rattle.bs_arena.specs.Arena.{stored_in}
use Rattle.bs_arena.proofs.Compactions.{Compacting}
use Rattle.bs_arena.proofs.compaction.move_together.Given as goal

abbrev pub invariant-clauses : goal.invariant-clauses
invariant-clauses l = record {
  far : Compacting (stored_in l.fn.words.items) l.words.items l.from l.to l.renaming.names;
  len : vec_len l.words ≡ vec_len l.fn.words;
  capacity : vec_capacity l.words ≡ vec_capacity l.fn.words;
  spare : l.fn.renaming.spare ≤ l.renaming.spare;
}

abbrev pub decreases-clauses : goal.decreases-clauses
decreases-clauses l = vec_len l.words - l.from
