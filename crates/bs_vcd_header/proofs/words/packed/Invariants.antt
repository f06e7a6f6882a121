use Rattle.std.proofs.Common.{◌≡◌, ◌<◌, ◌^◌, drop}
use Rattle.bs_vcd_header.specs.Words.{packed}
use Rattle.bs_vcd_header.proofs.PackedLemmas.{after}
use Rattle.bs_vcd_header.proofs.words.packed.Given as goal

abbrev pub invariant-loop-byte : goal.invariant-loop-byte
invariant-loop-byte l = record {
  small : l.number < 2 ^ 64;
  whole : after l.number (drop l.byte-index l.text) ≡ packed l.text;
}
