use Rattle.std.proofs.Common.{◌≡◌, ◌+◌, ◌≤◌, ◌++◌, map, take, length, vec_len, vec_capacity}
use Rattle.bs_bits.specs.Text.{digit_of}
use Rattle.bs_bits.proofs.bit_text.push_bits.Given as goal

abbrev pub invariant-loop-bit : goal.invariant-loop-bit
invariant-loop-bit l = record {
  room : vec_len l.into + length l.bits ≤ vec_capacity l.into + l.bit-index;
  written : l.into.items ≡ l.initial.into.items ++ map digit_of (take l.bit-index l.bits);
}
