use Rattle.std.proofs.Common.{◌≡◌, ◌+◌, ◌≤◌, length}
use Rattle.bs_bits.specs.Lines.{pieces_of}
use Rattle.bs_reach_answer.specs.Reading.{answer_from, answer_in}
use Rattle.bs_reach_answer.proofs.reading.read_lines.Given as goal

abbrev pub invariant-lines : goal.invariant-lines
invariant-lines l = record {
  whole : answer_in l.bytes ≡ answer_from l.number l.place l.answer (pieces_of l.rest);
  counted : l.number + length l.rest ≤ 1 + length l.bytes;
}

abbrev pub decreases-lines : goal.decreases-lines
decreases-lines l = length l.rest
