-- Why the files of a simulation are refused: the case of each fault, with its words and its note.
use Rattle.std.specs.Prelude.{ℕ, ◌==◌, Bool, true, false, List, [], ◌++◌, codes, Option, Some, None, Result, Ok, Err, if◌then◌else◌}
use Rattle.std.specs.List.{list_any}
use Rattle.bs_bits.specs.Reading.{◌>>=◌}
use Rattle.bs_net.specs.Parts.{Parts}
use Rattle.bs_net_names.specs.Keys.{key_parts}
use Rattle.bs_vcd_header.specs.declared.fault.VcdFault.{VcdFault}
use Rattle.bs_vcd_header.specs.declared.fault.VcdFault.TheVariants as vcd
use Rattle.bs_vcd_header.specs.Header.{HeaderDeclarations, nothing_declared}
use Rattle.bs_vcd_header.specs.Scopes.{declared_of, names_of, scopes_of}
use Rattle.bs_vcd_header.specs.Sources.{scope_of}
use Rattle.bs_vcd.specs.declared.cycles.When.{When}
use Rattle.bs_vcd.specs.declared.cycles.MarkedStates.{MarkedStates}
use Rattle.bs_vcd.specs.Cycles.{marked_in, states_in}
use Rattle.bs_inspect_report.specs.Keys.{flop_keys, input_keys}
use Rattle.bs_note_files.specs.Notes.{Saying, saying, file_text}
use Rattle.bs_inspect_notes.specs.declared.name.Subject.{Subject}
use Rattle.bs_inspect_notes.specs.Names as N
use Rattle.bs_inspect_notes.specs.Simulations as S
use Rattle.bs_outside.specs.Plan.{Reason, any_of}
use Rattle.bs_top_files.specs.Causes.{Case, at_line, stated}
use Rattle.bs_inspect_names.specs.declared.fault.MapFault.{MapFault}
use Rattle.bs_inspect_names.specs.declared.fault.MapFault.TheVariants as names
use Rattle.bs_inspect_values.specs.Words.{cycles_words, key_at, map_words, vcd_words}

-- the keys of the flip-flops and of the data inputs
abbrev pub all_keys : Parts → List (List ℕ)
all_keys r = flop_keys r ++ input_keys r

-- ---- the names in a simulation

abbrev pub return_saying : Saying
return_saying = saying (codes "a carriage return: lines end with a line feed alone") (codes "take the carriage returns out, as by `tr -d '\\r'`")

-- a line that is no key and name
abbrev pub line_saying : List ℕ → Saying
line_saying line = if list_any (λ b. b == 13) line then return_saying else N.form_saying

-- a vector's bit that has no number in the simulation's
abbrev pub range_saying : Saying
range_saying =
    saying (codes "the range behind the name in the simulation lacks a bit of this vector") (codes "a bit has the same number in both: write ranges that agree, or none")

-- a fault of such a text, which has these words
abbrev pub map_case : (words : List ℕ) → Subject → (path text : List ℕ) → List (List ℕ) → MapFault → Case
map_case words subject path text keys (names.Line number) = at_line words path text number (line_saying (N.numbered text number))
map_case words subject path text keys (names.Unknown number) = at_line words path text number (N.key_saying subject keys (N.numbered text number))
map_case words subject path text keys (names.Twice number) = at_line words path text number N.twice_saying
map_case words subject path text keys (names.Range number) = at_line words path text number range_saying
map_case words subject path text keys names.NoMemory = stated words []

-- why a text gives no names
abbrev pub map_reason : Subject → (path text : List ℕ) → List (List ℕ) → MapFault → Reason Case
map_reason subject path text keys fault = any_of (map_case (map_words fault) subject path text keys fault)

-- ---- the values of a simulator

abbrev pub declared_or : Result HeaderDeclarations VcdFault → HeaderDeclarations
declared_or (Ok d) = d
declared_or (Err fault) = nothing_declared

-- what a text declares
abbrev pub declarations : List ℕ → HeaderDeclarations
declarations text = declared_or (declared_of text)

-- a clock that is none
abbrev pub clock_said : (path : List ℕ) → Option (List ℕ) → List ℕ → HeaderDeclarations → List ℕ
clock_said path scope clock d = S.clock_text path scope clock (scopes_of d) (names_of scope d)

-- an input, or a flip-flop, that no variable is
abbrev pub input_said : Subject → (path key name : List ℕ) → Option (List ℕ) → List ℕ → HeaderDeclarations → List ℕ
input_said subject path key name scope clock d = S.input_text subject path key name (names_of (scope_of scope (key_parts clock) d) d)

-- a fault of such a text, which has these words
abbrev pub fault_case : (words : List ℕ) → Subject → (path text : List ℕ) → (keys names : List (List ℕ)) → Option (List ℕ) → List ℕ → VcdFault → Case
fault_case words subject path text keys names scope clock (vcd.Line number) = at_line words path text number S.word_saying
fault_case words subject path text keys names scope clock vcd.Ended = stated words (S.ended_text path)
fault_case words subject path text keys names scope clock vcd.NoClock = stated words (clock_said path scope clock (declarations text))
fault_case words subject path text keys names scope clock (vcd.NoInput i) =
    stated words (input_said subject path (key_at keys i) (key_at names i) scope clock (declarations text))
fault_case words subject path text keys names scope clock (vcd.Unknown i time) = stated words (S.unknown_text subject path (key_at keys i) time)
fault_case words subject path text keys names scope clock (vcd.NoCycle count) = stated words (S.short_text path count)
fault_case words subject path text keys names scope clock (vcd.DumpOff number) = at_line words path text number S.off_saying
fault_case words subject path text keys names scope clock (vcd.NoTime last) = stated words (S.time_text path last)
fault_case words subject path text keys names scope clock (vcd.Late begin) = stated words (S.early_text path begin)
fault_case words subject path text keys names scope clock vcd.NoMemory = stated words []

-- the same, but of a file that is no VCD at sight the note tells that
abbrev pub foreign_or : (words path : List ℕ) → Option (List ℕ) → Case → Case
foreign_or words path (Some sentence) case = stated words (file_text path sentence)
foreign_or words path None case = case

abbrev pub vcd_case : (words : List ℕ) → Subject → (path text : List ℕ) → (keys names : List (List ℕ)) → Option (List ℕ) → List ℕ → VcdFault → Case
vcd_case words subject path text keys names scope clock fault =
    foreign_or words path (S.foreign text) (fault_case words subject path text keys names scope clock fault)

-- why values are refused
abbrev pub vcd_reason : Subject → (path text : List ℕ) → (keys names : List (List ℕ)) → Option (List ℕ) → List ℕ → VcdFault → Reason Case
vcd_reason subject path text keys names scope clock fault =
    any_of (vcd_case (vcd_words keys fault) subject path text keys names scope clock fault)

-- why values are refused that have more edges than a run may have cycles
abbrev pub cycles_reason : List ℕ → Reason Case
cycles_reason path = any_of (stated cycles_words (S.cycles_text path))

-- ---- states

abbrev pub whole_states : List (List Bool) → MarkedStates
whole_states states = record { states = states; marks = []; lacks = 0 }

-- the states of a cycle and of so many before it: each bit is known, or those that are not, and those of no variable, are marked in the last
abbrev pub taken_in : (partial : Bool) → List ℕ → Option (List ℕ) → List ℕ → List (List ℕ) → When → ℕ → Result MarkedStates VcdFault
taken_in true text scope clock names at back = marked_in text scope clock names at back
taken_in false text scope clock names at back = states_in text scope clock names at back >>= λ states. Ok (whole_states states)
