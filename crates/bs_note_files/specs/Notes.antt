-- The forms of a note: each of its lines ends with a line feed.
use Rattle.std.specs.Prelude.{◌≡◌, ℕ, ◌-◌, List, ◌++◌, length, min, take, drop, codes, decimal}
use Rattle.bs_net_names.specs.declared.spot.Spot.{Spot}
use Rattle.bs_net_names.specs.Spots.{IsSpot}
use Rattle.bs_net_names.specs.Quotes.{caret, shown_line}
use Rattle.bs_note_files.specs.declared.form.Message.{Message}

-- what is said of a place: a sentence, and a few words behind the caret
pub record Saying : Type 0 where
  pub sentence : List ℕ
  pub label : List ℕ

abbrev pub saying : List ℕ → List ℕ → Saying
saying sentence label = record { sentence = sentence; label = label }

abbrev pub said : Message → Saying
said m = record { sentence = m.sentence.now; label = m.label.now }

-- a sentence alone
abbrev pub plain_text : List ℕ → List ℕ
plain_text sentence = codes "note: " ++ (sentence ++ codes "\n")

-- two sentences, a line each
abbrev pub pair_text : List ℕ → List ℕ → List ℕ
pair_text first second = plain_text first ++ plain_text second

-- a sentence on a file
abbrev pub file_text : List ℕ → List ℕ → List ℕ
file_text path sentence = plain_text (shown_line path ++ (codes ": " ++ sentence))

-- `PATH:LINE:COLUMN: `
abbrev pub head_text : List ℕ → Spot → List ℕ
head_text path s = shown_line path ++ (codes ":" ++ (decimal s.line ++ (codes ":" ++ (decimal s.column ++ codes ": "))))

-- the line of a place
abbrev pub line_at : List ℕ → Spot → List ℕ
line_at text s = take (s.end - s.start) (drop s.start text)

-- a line as it is shown, and a caret under one of its columns with a few words behind it
abbrev pub shown_text : List ℕ → ℕ → List ℕ → List ℕ
shown_text line column label = shown_line line ++ (codes "\n" ++ (caret line column ++ (codes " " ++ (label ++ codes "\n"))))

-- a sentence on a place of a file: the place, the line itself, and a caret under the place with a few words behind it
abbrev pub placed_text : List ℕ → List ℕ → Spot → List ℕ → List ℕ → List ℕ
placed_text path text s sentence label = plain_text (head_text path s ++ sentence) ++ shown_text (line_at text s) s.column label

-- the note says this on this place of the text, and stands on the line and column of the place
pub record IsPlacedNote (path text : List ℕ) (at : ℕ) (says : Saying) (note : List ℕ) : Type 0 where
  pub spot : Spot
  pub is : IsSpot text at spot
  pub written : note ≡ placed_text path text spot says.sentence says.label

-- the same, or on the text's end where the place is beyond it
abbrev pub IsNoteOn : List ℕ → List ℕ → ℕ → Saying → List ℕ → Type 0
IsNoteOn path text at says note = IsPlacedNote path text (min at (length text)) says note
