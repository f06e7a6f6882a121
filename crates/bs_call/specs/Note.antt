-- A note that is due, or is not.
use Rattle.std.specs.Prelude.{◌≡◌, ℕ, List, Option, Some, None, Result, Ok, Err, Vec}
use Rattle.std.specs.declared.alloc.Global.{Global}
use Rattle.bs_bits.specs.declared.memory.NoMemory.{NoMemory}
use Rattle.bs_call.specs.declared.note.Note.{Note}
use Rattle.bs_call.specs.declared.note.Note.TheVariants.{Silent, Brief, Text, Wanting}

-- a note that was made, or for which memory ran out
abbrev pub note_made : Result (Vec ℕ Global) NoMemory → Note
note_made (Ok text) = Text text
note_made (Err want) = Wanting

-- a note is there: such a one was made
abbrev pub Sure : (List ℕ → Type 0) → Note → Type 0
Sure is Silent = ⊥
Sure is (Brief said) = is said
Sure is (Text note) = is note.items
Sure is Wanting = ⊥

-- a note is due: such a one was made, or memory ran out while it was
abbrev pub Due : (List ℕ → Type 0) → Note → Type 0
Due is Silent = ⊥
Due is (Brief said) = is said
Due is (Text note) = is note.items
Due is Wanting = Unit {0}

-- a note with this text is due, where there is one
abbrev pub DueText : Option (List ℕ) → Note → Type 0
DueText None note = note ≡ Silent
DueText (Some text) note = Due (λ said. said ≡ text) note

-- a note with this text is there, where one is due
abbrev pub SureText : Option (List ℕ) → Note → Type 0
SureText None note = note ≡ Silent
SureText (Some text) note = Sure (λ said. said ≡ text) note
