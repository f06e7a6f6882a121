use Rattle.std.proofs.Common.{◌≤◌, ◌-◌, length}
use Rattle.bs_note_files.proofs.SignatureLemmas.{AreKnownTo, IsEnd}
use Rattle.bs_note_files.proofs.signature.unknown_name.Given as goal

abbrev pub decreases-words : goal.decreases-words
decreases-words l = length l.line - l.end

abbrev pub invariant-words : goal.invariant-words
invariant-words l = record {
  within : l.end ≤ length l.line;
  ends : IsEnd l.line l.end;
  keys : AreKnownTo l.flops l.line l.end;
}
