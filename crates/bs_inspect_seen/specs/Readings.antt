-- What names with values are to a request: these, or the reason of the refusal, with its words and its note.
use Rattle.std.specs.Prelude.{ℕ, ◌-◌, List, [], ◌++◌, codes, decimal, slice_index_or, Option, Some, None, Result}
use Rattle.bs_net.specs.Parts.{Parts}
use Rattle.bs_net_names.specs.Splits.{Halves, last_split}
use Rattle.bs_note_files.specs.Notes.{plain_text}
use Rattle.bs_inspect_notes.specs.declared.name.Subject.TheVariants.{Flops}
use Rattle.bs_inspect_notes.specs.Listings.{quoted}
use Rattle.bs_inspect_notes.specs.Names.{key_sentence}
use Rattle.bs_outside.specs.Plan.{Reason, any_of}
use Rattle.bs_top_files.specs.Causes.{Case, stated, with_reason}
use Rattle.bs_inspect_seen.specs.declared.fault.GivenFault.{GivenFault}
use Rattle.bs_inspect_seen.specs.declared.fault.GivenFault.TheVariants as faults
use Rattle.bs_inspect_seen.specs.Given.{Given, flop_keys, givens_in}

-- ---- the words

-- a word counts from 1
abbrev pub given_words : GivenFault → List ℕ
given_words (faults.Form word) = codes "Form " ++ decimal word
given_words (faults.Unknown word) = codes "Unknown " ++ decimal word
given_words (faults.Wide word) = codes "Wide " ++ decimal word
given_words (faults.Twice word) = codes "Twice " ++ decimal word
given_words faults.NoMemory = []

-- ---- the notes

-- the word with a number, from 1
abbrev pub word_at : List (List ℕ) → ℕ → List ℕ
word_at words number = slice_index_or words (number - 1) []

abbrev pub before_of : List ℕ → Option Halves → List ℕ
before_of word None = word
before_of word (Some h) = h.before

-- the name in a word
abbrev pub name_in : List ℕ → List ℕ
name_in word = before_of word (last_split 61 word)

abbrev pub form_text : List ℕ → List ℕ
form_text word =
    plain_text (quoted word ++ codes " is not NAME=VALUE: a value is a decimal number, or has hexadecimal digits behind `0x` or binary ones behind `0b`")

abbrev pub unknown_text : List (List ℕ) → List ℕ → List ℕ
unknown_text keys name =
    plain_text (key_sentence Flops name keys) ++ plain_text (codes "`flops` tells the keys; the name of a vector names its bits")

abbrev pub wide_text : List ℕ → List ℕ
wide_text name = plain_text (codes "the value has a 1 above the bits of " ++ quoted name)

abbrev pub twice_text : List ℕ → List ℕ
twice_text name = plain_text (codes "an earlier word has a value for a flip-flop of " ++ quoted name)

-- what is said of a word
abbrev pub fault_text : List (List ℕ) → List (List ℕ) → GivenFault → List ℕ
fault_text keys words (faults.Form number) = form_text (word_at words number)
fault_text keys words (faults.Unknown number) = unknown_text keys (name_in (word_at words number))
fault_text keys words (faults.Wide number) = wide_text (name_in (word_at words number))
fault_text keys words (faults.Twice number) = twice_text (name_in (word_at words number))
fault_text keys words faults.NoMemory = []

-- ---- both

abbrev pub given_reason : Parts → List (List ℕ) → GivenFault → Reason Case
given_reason r words fault = any_of (stated (given_words fault) (fault_text (flop_keys r) words fault))

-- the names with the values of words, or the reason of the refusal
abbrev pub givens_read : Parts → List (List ℕ) → Result (List Given) (Reason Case)
givens_read r words = with_reason (given_reason r words) (givens_in r words)
