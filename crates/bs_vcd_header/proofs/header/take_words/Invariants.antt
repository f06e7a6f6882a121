use Rattle.std.proofs.Common.{◌≡◌, ◌+◌, ◌≤◌, length}
use Rattle.bs_vcd_header.specs.Tokens.{tokens_from}
use Rattle.bs_vcd_header.specs.Header.{begun_in, header_from}
use Rattle.bs_vcd_header.proofs.header.take_words.Given as goal

abbrev pub invariant-words : goal.invariant-words
invariant-words l = record {
  whole : header_from (begun_in l.initial.begun) (tokens_from l.fn.line l.text) ≡ header_from (begun_in l.begun) (tokens_from l.line l.rest);
  counted : l.line + length l.rest ≤ l.fn.line + length l.text;
}

abbrev pub decreases-words : goal.decreases-words
decreases-words l = length l.rest
