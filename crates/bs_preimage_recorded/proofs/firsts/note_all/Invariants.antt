use Rattle.bs_chip.specs.Index.{Keeps}
use Rattle.bs_preimage_recorded.specs.Firsts.{HaveBy}
use Rattle.bs_preimage_recorded.proofs.firsts.note_all.Given as goal

abbrev pub invariant-hashes : goal.invariant-hashes
invariant-hashes l = record {
  keeps : Keeps l.initial.first l.first;
  notes : HaveBy l.first l.hashes l.cycle l.i;
}
