-- Notes on names that are asked for, on the names of inputs in a simulation, and on a report of another netlist.
use Rattle.std.specs.Prelude.{ℕ, ◌-◌, List, [], ◌++◌, codes, decimal, slice_index_or}
use Rattle.bs_bits.specs.Lines.{lines_of, words_of}
use Rattle.bs_note_files.specs.Notes.{Saying, saying, file_text, plain_text}
use Rattle.bs_inspect_notes.specs.declared.name.Subject.{Subject}
use Rattle.bs_inspect_notes.specs.declared.name.Subject.TheVariants.{Inputs, Flops}
use Rattle.bs_inspect_notes.specs.declared.name.TheConstants.{UNLISTED}
use Rattle.bs_inspect_notes.specs.Listings.{listing, quoted, some_near}

-- a name that is none of a netlist with these keys
abbrev pub name_text : List ℕ → List (List ℕ) → List ℕ
name_text name keys =
    plain_text (codes "no flip-flop, data input or vector of these has the name " ++ (quoted name ++ some_near name keys)) ++
    plain_text (codes "`flops` and `inputs` tell the keys, and `keys` the flip-flops that a wire shows; the name of a vector or memory names its bits")

-- a name that no net with these keys has
abbrev pub net_text : List ℕ → List (List ℕ) → List ℕ
net_text name keys =
    plain_text (codes "no net or vector of nets has the name " ++ (quoted name ++ some_near name keys)) ++
    plain_text (codes "`flops` and `inputs` tell keys; the name of a vector without an index names its bits")

-- ---- the names in a simulation

-- what has a key
abbrev pub subject_word : Subject → List ℕ
subject_word Inputs = codes "data input"
subject_word Flops = codes "flip-flop"

-- the line with a number, from 1
abbrev pub numbered : List ℕ → ℕ → List ℕ
numbered text number = slice_index_or (lines_of text) (number - 1) []

abbrev pub first_word : List ℕ → List ℕ
first_word line = slice_index_or (words_of line) 0 []

abbrev pub form_saying : Saying
form_saying = saying (codes "a line is `KEY NAME`, two words with one space between") (codes "a key of the netlist, and its name in the simulation")

-- a key that is none of these
unfoldable pub key_sentence : Subject → List ℕ → List (List ℕ) → List ℕ
key_sentence subject key keys = codes "no " ++ (subject_word subject ++ (codes " has the key " ++ (quoted key ++ some_near key keys)))

abbrev pub keys_label : Subject → List ℕ
keys_label Inputs = codes "`inputs` tells the keys"
keys_label Flops = codes "`flops` tells the keys"

abbrev pub key_saying : Subject → List (List ℕ) → List ℕ → Saying
key_saying subject keys line = saying (key_sentence subject (first_word line) keys) (keys_label subject)

abbrev pub twice_saying : Saying
twice_saying = saying (codes "the key of this line has a line already") (codes "take one of them out")

-- ---- a report of another netlist

abbrev pub state_text : List ℕ → ℕ → List ℕ
state_text file place =
    file_text file (codes "state " ++ (decimal place ++ codes " of the trace has not one bit for each flip-flop of the netlist")) ++
    plain_text (codes "is it the report of this very netlist?")

abbrev pub trace_text : List ℕ → ℕ → List ℕ
trace_text file place =
    file_text file (codes "input " ++ (decimal place ++ codes " of the trace has not one bit for each data input of the netlist")) ++
    plain_text (codes "is it the report of this very netlist?")

-- ---- an order of a scan chain

-- so many of so many flip-flops have no line, and these are their keys, a few of them
abbrev pub unlisted_text : (count width : ℕ) → List (List ℕ) → List ℕ
unlisted_text count width keys =
    plain_text (codes "the order has no line for " ++ (decimal count ++ (codes " of " ++ (decimal width ++ codes " flip-flops: `-` stands for each of them"))))
    ++ listing UNLISTED (codes "their keys:") keys
