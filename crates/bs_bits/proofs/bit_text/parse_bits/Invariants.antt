use Rattle.std.proofs.Common.{◌≡◌, ◌+◌, ◌≤◌, map, take, length, vec_len, vec_capacity}
use Rattle.bs_bits.specs.Text.{digit_of}
use Rattle.bs_bits.proofs.bit_text.parse_bits.Given as goal

abbrev pub invariant-loop-character : goal.invariant-loop-character
invariant-loop-character l = record {
  room : vec_len l.bits + length l.text ≤ vec_capacity l.bits + l.character-index;
  read : map digit_of l.bits.items ≡ take l.character-index l.text;
}
