use Rattle.std.proofs.Common.{◌≡◌, ◌+◌, ◌≤◌, ◌++◌, take, map, vec_len}
use Rattle.std.specs.Prelude.{vec_capacity, All}
use Rattle.bs_clause.specs.Literal.{code_of, IsCode}
use Rattle.bs_arena.proofs.header.push_codes.Given as goal

abbrev pub invariant-loop-l : goal.invariant-loop-l
invariant-loop-l l = record {
  items : l.words.items ≡ l.fn.words.items ++ map code_of (take l.l-index l.literals);
  len : vec_len l.words ≡ vec_len l.fn.words + l.l-index;
  codes : All (λ x. IsCode (code_of x)) (take l.l-index l.literals);
  capacity : vec_capacity l.fn.words ≤ vec_capacity l.words;
}
