use Rattle.std.proofs.Common.{sym}
use Rattle.bs_note_files.proofs.signature.key_note.Goals as goal

pub returns : goal.returns
returns c = record {
  flops = c.deref.result.now;
  nearest = rw c.deref.ensures.value c.in_ok-flops.ensures;
  placed =
      rw (sym c.in_ok-sentence.ensures, sym c.deref-2.ensures.value, sym c.in_ok-label.ensures, sym c.deref-3.ensures.value) c.in_ok-note.ensures;
}
