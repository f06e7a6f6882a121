use Rattle.std.proofs.Common.{◌≡◌, ◌+◌, ◌≤◌, length}
use Rattle.bs_bits.specs.Lines.{pieces_of}
use Rattle.bs_report.specs.Reading.{report_from, report_in}
use Rattle.bs_report.proofs.reading.read_lines.Given as goal

abbrev pub invariant-lines : goal.invariant-lines
invariant-lines l = record {
  whole : report_in l.bytes ≡ report_from l.number l.place l.report (pieces_of l.rest);
  counted : l.number + length l.rest ≤ 1 + length l.bytes;
}

abbrev pub decreases-lines : goal.decreases-lines
decreases-lines l = length l.rest
