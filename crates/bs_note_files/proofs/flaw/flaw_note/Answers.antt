use Rattle.bs_note_files.proofs.NoteLemmas.{clean_flaw}
use Rattle.bs_note_files.proofs.flaw.flaw_note.Goals as goal

pub returns-in-None : goal.returns-in-None
returns-in-None c = clean_flaw _ _ _ _ _ _ c.in-None.ensures.is c.note_on-in-None.ensures
