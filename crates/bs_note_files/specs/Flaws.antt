-- What is wrong with a line at sight, and notes on lines.
use Rattle.std.specs.Prelude.{◌≡◌, ◌⊎◌, ◌+◌, ◌-◌, ◌==◌, ℕ, List, length, max, slice_index, nat_lt, Bool, ◌||◌, ◌&&◌, Option, Some, None}
use Rattle.bs_note_files.specs.declared.form.Message.{Message}
use Rattle.bs_note_files.specs.Notes.{Saying, said, IsNoteOn}
use Rattle.bs_note_files.specs.Parts.{IsNumbered}
use Rattle.bs_verilog_scope.specs.Standing.{IsFirstPlace, NoneOf}
use Rattle.bs_note_files.specs.Sayings.{stray_saying, loose_saying}

-- the byte is none of ` ` to `~`
abbrev pub is_stray : ℕ → Bool
is_stray b = nat_lt b 32 || nat_lt 126 b

abbrev pub stray_at : List ℕ → ℕ → Bool
stray_at line k = is_stray (slice_index line k)

-- a space stands there, at an end of the line or before another
abbrev pub loose_at : List ℕ → ℕ → Bool
loose_at line k = slice_index line k == 32 && (k == 0 || (k == length line - 1 || slice_index line (k + 1) == 32))

-- the first stray byte stands there
abbrev pub IsStray : List ℕ → ℕ → Saying → Type 0
IsStray line at says = IsFirstPlace (stray_at line) (length line) at × (says ≡ stray_saying (slice_index line at))

-- no byte is stray, and the first loose space stands there
abbrev pub IsLoose : List ℕ → ℕ → Saying → Type 0
IsLoose line at says = NoneOf (stray_at line) (length line) × IsFirstPlace (loose_at line) (length line) at × (says ≡ loose_saying)

-- no byte is stray, and no space is loose
abbrev pub IsClean : List ℕ → Type 0
IsClean line = NoneOf (stray_at line) (length line) × NoneOf (loose_at line) (length line)

-- what is wrong at sight, and where
abbrev pub FlawIs : List ℕ → Option (ℕ × Message) → Type 0
FlawIs line (Some found) = IsStray line found.0 (said found.1) ⊎ IsLoose line found.0 (said found.1)
FlawIs line None = IsClean line

-- this is said of this place of a line: of what is wrong at sight, and else of the line's form, at its front
abbrev pub IsFlaw : List ℕ → Saying → ℕ → Saying → Type 0
IsFlaw line form at says = (IsStray line at says ⊎ IsLoose line at says) ⊎ (IsClean line × (at ≡ 0) × (says ≡ form))

-- a note on a line that begins at a place, where its form is told so
pub record IsFlawNote (path text : List ℕ) (start : ℕ) (line : List ℕ) (form : Saying) (note : List ℕ) : Type 0 where
  pub at : ℕ
  pub says : Saying
  pub is : IsFlaw line form at says
  pub placed : IsNoteOn path text (start + at) says note

-- a note on the line with a number, from 1, that is not of its form
pub record IsLineNote (path text : List ℕ) (number : ℕ) (form : List ℕ → Saying) (note : List ℕ) : Type 0 where
  pub start : ℕ
  pub line : List ℕ
  pub numbered : IsNumbered text (max number 1) start line
  pub flawed : IsFlawNote path text start line (form line) note

-- a note on the front of the line with a number, from 1
pub record IsStartNote (path text : List ℕ) (number : ℕ) (says : List ℕ → Saying) (note : List ℕ) : Type 0 where
  pub start : ℕ
  pub line : List ℕ
  pub numbered : IsNumbered text (max number 1) start line
  pub placed : IsNoteOn path text start (says line) note
