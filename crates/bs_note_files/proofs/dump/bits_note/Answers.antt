use Rattle.std.proofs.Common.{sym}
use Rattle.bs_note_files.proofs.dump.bits_note.Goals as goal

pub returns : goal.returns
returns c = rw (sym c.in_ok-said.ensures, sym c.bits_label.ensures, sym c.as_bytes.ensures.value, sym c.deref.ensures.value) c.in_ok-note.ensures
