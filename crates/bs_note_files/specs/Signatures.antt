-- Notes on a text that is no signature.
use Rattle.std.specs.Prelude.{◌≡◌, ◌⊎◌, ◌≤◌, ◌<◌, ◌+◌, ◌-◌, ◌==◌, ◌||◌, ◌&&◌, ℕ, Bool, List, ◌++◌, is_none, codes, length, max, take, drop, slice_index, nat_eq, true, false, if◌then◌else◌}
use Rattle.std.specs.List.{flat_map, starts_with}
use Rattle.bs_bits.specs.Lines.{is_name}
use Rattle.bs_net.specs.Parts.{Parts}
use Rattle.bs_scan.specs.ChoiceText.{flop_named}
use Rattle.bs_scan.specs.declared.fault.ChoiceFault.{ChoiceFault}
use Rattle.bs_scan.specs.declared.fault.ChoiceFault.TheVariants as choice
use Rattle.bs_net_names.specs.Rtl.{rtl_name}
use Rattle.bs_net_names.specs.Nearest.{AreNearest, key_at}
use Rattle.bs_net_names.specs.Quotes.{shown_line}
use Rattle.bs_note_files.specs.Notes.{Saying, saying, file_text, IsNoteOn}
use Rattle.bs_note_files.specs.Flaws.{IsLineNote, IsStartNote}
use Rattle.bs_note_files.specs.Parts.{IsNumbered}
use Rattle.bs_note_files.specs.Sayings.{choice_saying, comment_saying, item_saying, line_saying, items_saying}

-- whether a word is a name that no flip-flop has (docs/FORMATS.md, "Signature")
abbrev pub is_unknown : Parts → List ℕ → Bool
is_unknown r word = is_name word && is_none (flop_named r word)

-- the key of a flip-flop, as it is named
abbrev pub key_piece : Parts → ℕ → List ℕ
key_piece r flop = codes " " ++ shown_line (key_at r flop)

-- what is said of a name that no flip-flop has
abbrev pub unknown_sentence : List ℕ → List ℕ
unknown_sentence name = codes "no flip-flop has the key `" ++ (shown_line name ++ codes "`, the name of its output net")

-- the keys of these flip-flops
abbrev pub unknown_label : Parts → List ℕ → List ℕ
unknown_label r flops = codes "the nearest keys of flip-flops:" ++ flat_map (key_piece r) flops

-- the bytes of a line from a place up to an end
abbrev pub word_in : List ℕ → (ℕ × ℕ) → List ℕ
word_in line word = take (word.1 - word.0) (drop word.0 line)

-- The bytes of a line behind one of its spaces, up to the next one or the line's end: one of its words behind the first.
pub record IsWord (line : List ℕ) (word : ℕ × ℕ) : Type 0 where
  pub behind : 0 < word.0
  pub space : (slice_index line (word.0 - 1) == 32) ≡ true
  pub from : word.0 ≤ word.1
  pub to : word.1 ≤ length line
  pub inside : (k : ℕ) → word.0 ≤ k → k < word.1 → (slice_index line k == 32) ≡ false
  pub ends : (word.1 ≡ length line) ⊎ ((slice_index line word.1 == 32) ≡ true)

-- a word of the line that is a name and no flip-flop's, and no word before it but the line's first is one
pub record IsUnknownWord (r : Parts) (line : List ℕ) (word : ℕ × ℕ) : Type 0 where
  pub is : IsWord line word
  pub unknown : is_unknown r (word_in line word) ≡ true
  pub first : (other : ℕ × ℕ) → IsWord line other → other.0 < word.0 → is_unknown r (word_in line other) ≡ false

-- no word of the line but its first is a name and no flip-flop's
pub record AreKnown (r : Parts) (line : List ℕ) : Type 0 where
  pub each : (word : ℕ × ℕ) → IsWord line word → is_unknown r (word_in line word) ≡ false

-- the note names this name as no flip-flop's, and the netlist's keys that are nearest to it, as RTL writes both
pub record SaysUnknown (r : Parts) (path text : List ℕ) (at : ℕ) (name note : List ℕ) : Type 0 where
  pub flops : List ℕ
  pub nearest : AreNearest r (rtl_name name) flops
  pub placed : IsNoteOn path text at (saying (unknown_sentence name) (unknown_label r flops)) note

-- the same of a word of a line that begins at a place
pub record IsUnknownOn (r : Parts) (path text : List ℕ) (start : ℕ) (line note : List ℕ) : Type 0 where
  pub word : ℕ × ℕ
  pub is : IsUnknownWord r line word
  pub named : SaysUnknown r path text (start + word.0) (word_in line word) note

-- a note on the line with a number, in which a name is no flip-flop's
pub record IsUnknownIn (r : Parts) (path text : List ℕ) (number : ℕ) (note : List ℕ) : Type 0 where
  pub start : ℕ
  pub line : List ℕ
  pub numbered : IsNumbered text (max number 1) start line
  pub named : IsUnknownOn r path text start line note

-- a note on the file, where each name behind the first word of the line with that number is a flip-flop's
pub record IsKnownIn (r : Parts) (path text : List ℕ) (number : ℕ) (note : List ℕ) : Type 0 where
  pub start : ℕ
  pub line : List ℕ
  pub numbered : IsNumbered text (max number 1) start line
  pub known : AreKnown r line
  pub written : note ≡ file_text path (codes "a name is no flip-flop's key")

abbrev pub IsUnknownNote : Parts → List ℕ → List ℕ → ℕ → List ℕ → Type 0
IsUnknownNote r path text number note = IsUnknownIn r path text number note ⊎ IsKnownIn r path text number note

-- the form of a line
abbrev pub form_saying : List ℕ → Saying
form_saying line =
    if starts_with nat_eq line (codes "bit ") then item_saying
    else (if starts_with nat_eq line (codes "choice ") then choice_saying
    else (if starts_with nat_eq line (codes "#") || starts_with nat_eq line (codes "//") then comment_saying else line_saying))

abbrev pub IsSignatureNote : Parts → List ℕ → List ℕ → ChoiceFault → List ℕ → Type 0
IsSignatureNote r path text (choice.Line number) note = IsLineNote path text number form_saying note
IsSignatureNote r path text (choice.TooMany number) note = IsStartNote path text number (λ line. items_saying) note
IsSignatureNote r path text (choice.UnknownFlop number) note = IsUnknownNote r path text number note
IsSignatureNote r path text choice.NoMemory note = note ≡ file_text path (codes "memory ran out")
