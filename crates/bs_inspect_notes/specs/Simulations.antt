-- Notes on the values of a simulator.
use Rattle.std.specs.Prelude.{ℕ, ◌==◌, nat_eq, Bool, false, not, List, [], ◌∷◌, ◌++◌, codes, decimal, slice_index, Option, Some, None, if◌then◌else◌}
use Rattle.std.specs.List.{list_any, position, starts_with}
use Rattle.std.specs.Str.{bytes_eq}
use Rattle.bs_vcd_header.specs.Tokens.{is_white}
use Rattle.bs_note_files.specs.Notes.{Saying, saying, file_text, pair_text, plain_text}
use Rattle.bs_inspect_notes.specs.declared.name.Subject.{Subject}
use Rattle.bs_inspect_notes.specs.declared.name.Subject.TheVariants.{Inputs, Flops}
use Rattle.bs_inspect_notes.specs.Names.{subject_word}
use Rattle.bs_inspect_notes.specs.Listings.{quoted, some_near, some_listing}

-- ---- a file of another kind, by its first bytes

-- the bytes with which a file begins that gzip compressed
abbrev pub gzip_front : List ℕ
gzip_front = 31 ∷ 139 ∷ []

-- the type and the length of the first block of an FST
abbrev pub fst_front : List ℕ
fst_front = 0 ∷ 0 ∷ 0 ∷ 0 ∷ 0 ∷ 0 ∷ 0 ∷ 1 ∷ 73 ∷ []

abbrev pub keyword_at : List ℕ → Option ℕ → Bool
keyword_at text None = false
keyword_at text (Some at) = slice_index text at == 36

-- the first byte that is not white space is `$`
abbrev pub begins : List ℕ → Bool
begins text = keyword_at text (position (λ b. not (is_white b)) text)

-- what a file is that is no VCD at sight
abbrev pub foreign : List ℕ → Option (List ℕ)
foreign text =
    if starts_with nat_eq text gzip_front then Some (codes "this is compressed by gzip: unpack it first, as by `gzip -dc FILE > FILE.vcd`")
    else (if starts_with nat_eq text fst_front then Some (codes "this is an FST and no VCD: convert it first, as by `fst2vcd FILE > FILE.vcd`")
    else (if begins text then None else Some (codes "this is no VCD: its first word does not begin with `$`")))

-- ---- the text

abbrev pub word_saying : Saying
word_saying =
    saying (codes "a word of this line cannot stand there, or the command that ends here")
    (codes "a value is `0ID`, `1ID`, `xID`, `zID` or `bBITS ID`, a time `#N`, and times rise")

-- the dump is switched off
abbrev pub off_saying : Saying
off_saying =
    saying (codes "the dump is switched off here: cycles behind this line are not in the text") (codes "take `$dumpoff` out of the bench")

abbrev pub ended_text : List ℕ → List ℕ
ended_text path =
    file_text path (codes "the text ends in its declarations, in a comment or behind a value") ++
    plain_text (codes "was it cut short? `$enddefinitions $end` stands before the first time")

-- ---- the clock

abbrev pub has_scope : List ℕ → List (List ℕ) → Bool
has_scope path paths = list_any (λ p. bytes_eq p path) paths

-- that none is the clock
unfoldable pub clock_piece : List ℕ → List (List ℕ) → List ℕ
clock_piece clock names = codes " is the clock " ++ (quoted clock ++ some_near clock names)

-- no variable of any scope is the clock
abbrev pub any_sentence : List ℕ → List (List ℕ) → List ℕ
any_sentence clock names = codes "no variable of one bit" ++ clock_piece clock names

-- none of this scope is
abbrev pub scope_sentence : List ℕ → List ℕ → List (List ℕ) → List ℕ
scope_sentence path clock names = codes "no variable of one bit in the scope " ++ (quoted path ++ clock_piece clock names)

-- there is no such scope
abbrev pub path_sentence : List ℕ → List (List ℕ) → List ℕ
path_sentence path paths = codes "there is no scope " ++ (quoted path ++ some_near path paths)

-- what is said of a clock that is none, by the path of the scope, where one is asked for, the paths of all scopes, and the names of
-- that scope's variables, or of all
abbrev pub scoped_sentence : List ℕ → List ℕ → (paths names : List (List ℕ)) → List ℕ
scoped_sentence path clock paths names = if has_scope path paths then scope_sentence path clock names else path_sentence path paths

abbrev pub clock_sentence : Option (List ℕ) → List ℕ → (paths names : List (List ℕ)) → List ℕ
clock_sentence None clock paths names = any_sentence clock names
clock_sentence (Some path) clock paths names = scoped_sentence path clock paths names

abbrev pub clock_text : List ℕ → Option (List ℕ) → List ℕ → (paths names : List (List ℕ)) → List ℕ
clock_text file scope clock paths names =
    (file_text file (clock_sentence scope clock paths names) ++ some_listing (codes "the scopes:") paths) ++
    some_listing (codes "the variables there:") names

-- ---- the inputs, or the flip-flops

-- one with a key
unfoldable pub subject_piece : Subject → List ℕ → List ℕ
subject_piece subject key = subject_word subject ++ (codes " " ++ quoted key)

-- one with a key that no variable is, by its name in the simulation and the names of the scope's variables
unfoldable pub input_sentence : Subject → (key name : List ℕ) → List (List ℕ) → List ℕ
input_sentence subject key name names =
    codes "no variable in the clock's scope is the "
    ++ (subject_piece subject key ++ (codes ", by the name " ++ (quoted name ++ some_near name names)))

abbrev pub input_hint : Subject → List ℕ
input_hint Inputs =
    plain_text (codes "the design's scope stands behind --scope; where names are others, a file of lines KEY NAME behind --map")
input_hint Flops =
    plain_text (codes "the design's scope stands behind --scope; where names are others, a file of lines KEY NAME behind --map; a memory's word is dumped where `$dumpvars` names it")

abbrev pub input_text : Subject → List ℕ → (key name : List ℕ) → List (List ℕ) → List ℕ
input_text subject file key name names = file_text file (input_sentence subject key name names) ++ input_hint subject

-- one whose bit is not known
unfoldable pub unknown_sentence : Subject → List ℕ → ℕ → List ℕ
unknown_sentence subject key time =
    codes "the " ++ (subject_piece subject key ++ (codes " is neither 0 nor 1 before the rising edge at time " ++ decimal time))

abbrev pub unknown_hint : Subject → List ℕ
unknown_hint Inputs = plain_text (codes "drive each data input before the clock rises first: a run begins at reset, and its front cannot be left out")
unknown_hint Flops =
    plain_text (codes "take a later cycle, or begin with an initial value; of the last cycle the time is that of the last change; `backspace dump .. RUN CYCLE` has the state of a recorded run, and `--partial` writes `-` for what is not known")

abbrev pub unknown_text : Subject → List ℕ → List ℕ → ℕ → List ℕ
unknown_text subject file key time = file_text file (unknown_sentence subject key time) ++ unknown_hint subject

-- ---- the clock's edges

-- fewer edges than a cycle has before it
abbrev pub short_text : List ℕ → ℕ → List ℕ
short_text file count =
    file_text file (codes "so often does the clock rise: " ++ (decimal count ++ codes "; there is no such cycle")) ++
    plain_text (codes "cycles count from 0, and each edge ends one; is this the netlist's clock?")

-- a time behind the last one
abbrev pub time_text : List ℕ → ℕ → List ℕ
time_text file last =
    file_text file (codes "the last time of the text is " ++ (decimal last ++ codes "; there is no such time")) ++
    plain_text (codes "times count in the unit that `$timescale` names, as behind `#` in the text")

-- states that stand before the values
abbrev pub early_text : List ℕ → ℕ → List ℕ
early_text file begin =
    file_text file (codes "the values begin at time " ++ (decimal begin ++ codes ", and the states before that are not in the text")) ++
    plain_text (codes "a dump with a signature wants them: take a later cycle, or begin to dump at time 0")

-- more edges than a run may have cycles
abbrev pub cycles_text : List ℕ → List ℕ
cycles_text file =
    file_text file (codes "the clock rises more than 65536 times, the most cycles of a run") ++
    plain_text (codes "is this the netlist's clock? a run begins at reset: shorten the way to the failure, or end the run earlier")

-- ---- values that begin late

unfoldable pub late_sentence : List ℕ → ℕ → List ℕ
late_sentence name time = codes "the values of the run " ++ (quoted name ++ (codes " begin at time " ++ decimal time))

abbrev pub late_hint : List ℕ
late_hint =
    codes "edges before that are not in them, and a run begins at reset: begin to dump at time 0, or be sure that the clock did not rise before"

-- a run whose values begin at a time behind 0
abbrev pub late_text : List ℕ → ℕ → List ℕ
late_text name time = pair_text (late_sentence name time) late_hint

-- ---- a clock that is data

-- a clock that is a data input as well
unfoldable pub data_sentence : List ℕ → List ℕ
data_sentence clock =
    codes "the clock " ++ (quoted clock ++ codes " is a data input of the netlist, and each of its rising edges was taken for a cycle")

unfoldable pub own_sentence : List ℕ → List ℕ
own_sentence key = codes "the netlist's clock is " ++ quoted key

-- such a clock, where that of the netlist has this key
abbrev pub data_clock_text : (clock key : List ℕ) → List ℕ
data_clock_text clock key = pair_text (data_sentence clock) (own_sentence key)
