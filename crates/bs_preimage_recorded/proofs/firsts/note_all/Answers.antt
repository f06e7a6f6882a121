use Rattle.bs_chip.proofs.IndexLemmas.{keeps_more}
use Rattle.bs_preimage_recorded.proofs.FirstLemmas.{have_more}
use Rattle.bs_preimage_recorded.proofs.firsts.note_all.Goals as goal

pub returns-in_err-note-clause-keeps : goal.returns-in_err-note-clause-keeps
returns-in_err-note-clause-keeps c =
    keeps_more c.args.first.now c.hashes.first c.note.new.first c.hashes.invariant.keeps c.in_err-note.ensures.keeps

pub hashes-preserved : goal.hashes-preserved
hashes-preserved c = record {
  keeps = keeps_more c.args.first.now c.hashes.first c.note.new.first c.hashes.invariant.keeps c.in_ok-note.ensures.keeps;
  notes =
      have_more c.hashes.first c.note.new.first c.args.hashes.now c.args.cycle c.hashes.i c.in_ok-note.ensures.keeps c.in_ok-note.ensures.notes
      c.hashes.invariant.notes;
}
