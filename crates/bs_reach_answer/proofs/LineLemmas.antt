-- What a note on a line says.
use Rattle.std.proofs.Common.{◌≡◌, ℕ, List, subst}
use Rattle.bs_note_files.specs.Notes.{Saying}
use Rattle.bs_top_files.specs.Causes.{IsNoteAtLine}

pub line_said : (path text note : List ℕ) (number : ℕ) (says other : Saying) → says ≡ other → IsNoteAtLine path text number says note →
    IsNoteAtLine path text number other note
line_said path text note number says other e h = subst (λ (s : Saying). IsNoteAtLine path text number s note) e h
