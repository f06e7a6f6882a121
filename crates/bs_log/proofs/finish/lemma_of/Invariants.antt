use Rattle.std.proofs.Common.{◌≡◌, ◌≤◌, length, take}
use Rattle.bs_log.specs.Refusal.{history_of}
use Rattle.bs_log.specs.Proof.{lemma_in}
use Rattle.bs_log.proofs.finish.lemma_of.Given as goal

abbrev pub invariant-lines : goal.invariant-lines
invariant-lines l = record {
  rest : lemma_in (history_of l.lines) l.id ≡ lemma_in (history_of (take l.i l.lines)) l.id;
  within : l.i ≤ length l.lines;
}

abbrev pub decreases-lines : goal.decreases-lines
decreases-lines l = l.i
