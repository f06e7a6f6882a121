use Rattle.bs_note_files.proofs.SignatureLemmas.{known_note}
use Rattle.bs_note_files.proofs.signature.unknown_note.Goals as goal

pub returns-in-None : goal.returns-in-None
returns-in-None c =
    known_note _ _ _ _ _ _ c.in_ok-word.word _ c.numbered_line-start.ensures.is c.in-None.is c.in_ok-word.ensures.none c.file_note.ensures
