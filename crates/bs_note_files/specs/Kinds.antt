-- Which file of a job a text seems to be, by its first word, or by a line that begins a module.
use Rattle.std.specs.Prelude.{ℕ, ◌==◌, Bool, List, ◌++◌, codes, nat_eq, Option, Some, None, if◌then◌else◌}
use Rattle.std.specs.List.{list_any, starts_with}
use Rattle.std.specs.Option.{option_and_then}
use Rattle.bs_bits.specs.Lines.{lines_of}
use Rattle.bs_outside.specs.declared.file.File.{File}
use Rattle.bs_outside.specs.declared.file.File.TheVariants.{Netlist, Signature, Stimulus, Dump, Report, State, Vcd, Map, Name}
use Rattle.bs_outside.specs.PlanFiles.{file_word}
use Rattle.bs_note_files.specs.Notes.{file_text}

abbrev pub begins_module : List ℕ → Bool
begins_module line = starts_with nat_eq line (codes "module ")

-- some line begins a module, as behind a comment
abbrev pub has_module : List ℕ → Bool
has_module text = list_any begins_module (lines_of text)

abbrev pub kind_of_lines : List ℕ → Option File
kind_of_lines text = if has_module text then Some Netlist else None

abbrev pub kind_of : List ℕ → Option File
kind_of text =
    if starts_with nat_eq text (codes "module ") then Some Netlist
    else (if starts_with nat_eq text (codes "bit ") then Some Signature
    else (if starts_with nat_eq text (codes "xor ") then Some Signature
    else (if starts_with nat_eq text (codes "cycles ") then Some Signature
    else (if starts_with nat_eq text (codes "run ") then Some Stimulus
    else (if starts_with nat_eq text (codes "state ") then Some Dump
    else (if starts_with nat_eq text (codes "backspace ") then Some Report
    else (if starts_with nat_eq text (codes "$") then Some Vcd
    else kind_of_lines text)))))))

-- the place of a file among the names of a job
abbrev pub rank : File → ℕ
rank Netlist = 0
rank Signature = 1
rank Stimulus = 2
rank Dump = 3
rank Report = 4
rank State = 5
rank Vcd = 6
rank Map = 7
rank Name = 8

abbrev pub other_than : File → File → Option File
other_than file kind = if rank kind == rank file then None else Some kind

-- the file that a text seems to be, where it is another than the one it is given as
abbrev pub mistaken : File → List ℕ → Option File
mistaken file text = option_and_then (λ (kind : File). other_than file kind) (kind_of text)

-- what to do with value changes that are given as this file
abbrev pub vcd_advice : File → List ℕ
vcd_advice file =
    if rank file == rank Dump then codes " of a simulator; `backspace_inspect dump NETLIST VCD --cycle N` makes a dump of one"
    else codes " of a simulator; `backspace_inspect stimulus NETLIST VCD --clock NAME` makes a stimulus of one"

-- what to do with it
abbrev pub mistaken_advice : File → File → List ℕ
mistaken_advice file kind =
    if rank kind == rank Vcd then vcd_advice file
    else codes "; the files stand in the order NETLIST SIGNATURE STIMULUS DUMP REPORT"

-- what is said of a file that seems to be another one
abbrev pub mistaken_sentence : File → File → List ℕ
mistaken_sentence file kind =
    codes "given as the " ++ (file_word file ++ (codes ", this file begins like a " ++ (file_word kind ++ mistaken_advice file kind)))

abbrev pub mistaken_text : File → File → List ℕ → List ℕ
mistaken_text file kind path = file_text path (mistaken_sentence file kind)
