use Rattle.std.proofs.Common.{sym}
use Rattle.bs_note_files.proofs.design.ring_note.Goals as goal

pub returns : goal.returns
returns c = rw (sym c.first_name-first.ensures, sym c.in_ok-said.ensures, sym c.deref.ensures.value) c.in_ok-note.ensures
