use Rattle.std.proofs.Common.{length, ◌-◌, ◌≡◌}
use Rattle.bs_outside.proofs.WriteLemmas.{IsWriting}
use Rattle.bs_outside.proofs.writing.write_whole.Given as goal

abbrev pub invariant-loop-at : goal.invariant-loop-at
invariant-loop-at g l = IsWriting l.bytes (g.W.Write.contents l.initial.writer) (g.W.Write.contents l.writer) l.at × (l.faults ≡ l.initial.faults)

abbrev pub decreases-loop-at : goal.decreases-loop-at
decreases-loop-at g l = length l.bytes - l.at
