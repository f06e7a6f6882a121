use Rattle.std.proofs.Common.{◌≡◌, ◌+◌, ◌≤◌, ◌++◌, replicate, vec_len, vec_capacity}
use Rattle.bs_stim.proofs.packed.grow.Given as goal

abbrev pub invariant-words : goal.invariant-words
invariant-words l = record {
  room : vec_len l.words + l.more ≤ vec_capacity l.words + l.counter;
  grown : l.words.items ≡ l.initial.words.items ++ replicate l.counter 0;
}
