-- The words behind a file's name in a refusal line, for each fault of a reader and of the check (docs/FORMATS.md, "Refusal lines").
use Rattle.std.specs.Prelude.{◌≡◌, ◌≢◌, ℕ, List, [], ◌++◌, slice_index_or, codes, decimal, Result, Ok, Err}
use Rattle.std.specs.List.{flat_map}
use Rattle.bs_net.specs.declared.net.NetId.{NetId}
use Rattle.bs_net.specs.Parts.{Parts}
use Rattle.bs_net.specs.declared.fault.Count.{Count}
use Rattle.bs_net.specs.declared.fault.Count.TheVariants.{Flops, Inputs, Terminals}
use Rattle.bs_net.specs.declared.fault.NetFault.{NetFault}
use Rattle.bs_net.specs.declared.fault.NetFault.TheVariants as net
use Rattle.bs_net.specs.Check.{IsFault}
use Rattle.bs_net.specs.Loops.{gate_at}
use Rattle.bs_verilog_syntax.specs.Refusals.{what_word}
use Rattle.bs_verilog_syntax.specs.declared.fault.What.{What}
use Rattle.bs_verilog_syntax.specs.declared.fault.VerilogFault.{VerilogFault}
use Rattle.bs_verilog_syntax.specs.declared.fault.VerilogFault.TheVariants as verilog
use Rattle.bs_flat_meaning.specs.declared.fault.FlatFault.{FlatFault}
use Rattle.bs_flat_meaning.specs.declared.fault.FlatFault.TheVariants as flat
use Rattle.bs_flat_meaning.specs.Reading.{IsAnswer}
use Rattle.bs_scan.specs.declared.fault.ChoiceFault.{ChoiceFault}
use Rattle.bs_scan.specs.declared.fault.ChoiceFault.TheVariants as choice
use Rattle.bs_scan.specs.declared.fault.DumpFault.{DumpFault}
use Rattle.bs_scan.specs.declared.fault.DumpFault.TheVariants as dump
use Rattle.bs_stim.specs.declared.fault.StimFault.{StimFault}
use Rattle.bs_stim.specs.declared.fault.StimFault.TheVariants as stimulus
use Rattle.bs_report.specs.declared.fault.ReportFault.{ReportFault}
use Rattle.bs_report.specs.declared.fault.ReportFault.TheVariants as report
use Rattle.bs_outside.specs.declared.file_fetch.Refusal.{Refusal}
use Rattle.bs_outside.specs.declared.file_fetch.Refusal.TheVariants as Q

-- ---- the words of a fault; out of memory is no fault of a file and has none

-- what a netlist's text has that is left out, and where
abbrev pub unsupported_words : ℕ → What → List ℕ
unsupported_words at what = codes "Unsupported " ++ (decimal at ++ (codes " " ++ what_word what))

-- a netlist's text; a place is a byte offset from 0
abbrev pub netlist_text_words : VerilogFault → List ℕ
netlist_text_words (verilog.Syntax at) = codes "Syntax " ++ decimal at
netlist_text_words (verilog.Unsupported at what) = unsupported_words at what
netlist_text_words (verilog.Port at) = codes "Port " ++ decimal at
netlist_text_words (verilog.Redeclared at) = codes "Redeclared " ++ decimal at
netlist_text_words (verilog.TooManyNets at) = codes "TooManyNets " ++ decimal at
netlist_text_words (verilog.Terminals at) = codes "Terminals " ++ decimal at
netlist_text_words (verilog.Index at) = codes "Index " ++ decimal at
netlist_text_words verilog.NoMemory = []

-- a name, behind a space
abbrev pub name_piece : List ℕ → List ℕ
name_piece name = codes " " ++ name

-- a netlist's text of any number of modules
abbrev pub flat_words : FlatFault → List ℕ
flat_words (flat.Verilog fault) = netlist_text_words fault
flat_words (flat.Twice at) = codes "Twice " ++ decimal at
flat_words (flat.OwnNets at) = codes "OwnNets " ++ decimal at
flat_words (flat.Recursion names) = codes "Recursion" ++ flat_map name_piece names
flat_words (flat.Tops count) = codes "Tops " ++ decimal count
flat_words (flat.Connect at) = codes "Connect " ++ decimal at
flat_words flat.FlatDepth = codes "FlatDepth"
flat_words flat.FlatParts = codes "FlatParts"
flat_words flat.FlatNets = codes "FlatNets"
flat_words flat.FlatKeys = codes "FlatKeys"
flat_words (flat.NameClash key) = codes "NameClash " ++ key
flat_words flat.FlatTerminals = codes "FlatTerminals"
flat_words flat.NoMemory = []

-- a signature; a line counts from 1
abbrev pub signature_words : ChoiceFault → List ℕ
signature_words (choice.Line line) = codes "Line " ++ decimal line
signature_words (choice.TooMany line) = codes "TooMany " ++ decimal line
signature_words (choice.UnknownFlop line) = codes "UnknownFlop " ++ decimal line
signature_words choice.NoMemory = []

-- a stimulus; a line counts from 1
abbrev pub stimulus_words : StimFault → List ℕ
stimulus_words stimulus.NoRun = codes "NoRun"
stimulus_words (stimulus.Line line) = codes "Line " ++ decimal line
stimulus_words (stimulus.Width line) = codes "Width " ++ decimal line
stimulus_words (stimulus.Count line) = codes "Count " ++ decimal line
stimulus_words (stimulus.TooManyRuns line) = codes "TooManyRuns " ++ decimal line
stimulus_words (stimulus.TooManyCycles line) = codes "TooManyCycles " ++ decimal line
stimulus_words stimulus.NoMemory = []

-- a dump; a line counts from 1
abbrev pub dump_words : DumpFault → List ℕ
dump_words (dump.Line line) = codes "Line " ++ decimal line
dump_words (dump.Width line) = codes "Width " ++ decimal line
dump_words dump.NotReset = codes "NotReset"
dump_words dump.NoMemory = []

-- a report; a line counts from 1
abbrev pub report_words : ReportFault → List ℕ
report_words (report.Line line) = codes "Line " ++ decimal line
report_words report.Short = codes "Short"
report_words report.Extra = codes "Extra"
report_words report.NoMemory = []

-- a moment that the runs do not have
abbrev pub range_words : List ℕ
range_words = codes "Range"

-- a report whose trace has too large a waveform
abbrev pub too_large_words : List ℕ
too_large_words = codes "TooLarge"

-- a report whose trace is a state that is known in part
abbrev pub partial_words : List ℕ
partial_words = codes "Partial"

-- ---- the check of a netlist

-- the word for what there is too much of
abbrev pub count_word : Count → List ℕ
count_word Flops = codes "Flops"
count_word Inputs = codes "Inputs"
count_word Terminals = codes "Terminals"

-- what there is too much of, and how much
abbrev pub too_many_words : Count → ℕ → List ℕ
too_many_words kind count = codes "TooMany " ++ (count_word kind ++ (codes " " ++ decimal count))

-- the key of a net
abbrev pub key_of : Parts → NetId → List ℕ
key_of r n = slice_index_or r.names n.0 []

-- the key of a gate's output net, behind a space
abbrev pub gate_piece : Parts → ℕ → List ℕ
gate_piece r gate = codes " " ++ key_of r (gate_at r.gates gate).out

-- a fault of the check; a gate is named by its output net
abbrev pub check_words : Parts → NetFault → List ℕ
check_words r (net.TooMany kind count) = too_many_words kind count
check_words r (net.SecondDriver n) = codes "SecondDriver " ++ key_of r n
check_words r (net.Undriven n) = codes "Undriven " ++ key_of r n
check_words r (net.Loop gates) = codes "Loop" ++ flat_map (gate_piece r) gates
check_words r net.NoFlop = codes "NoFlop"
check_words r (net.ClockMixed n) = codes "ClockMixed " ++ key_of r n
check_words r net.NoMemory = []

-- These words go with a netlist that the check refuses: they tell a fault that the check may tell, so any of its loops.
pub record FaultSays (r : Parts) (why : List ℕ) : Type 0 where
  pub fault : NetFault
  pub told : fault ≢ net.NoMemory
  pub is : IsFault r fault
  pub words : why ≡ check_words r fault

-- ---- a text whose modules instance each other in rings, of which any may be told

-- These words go with a text whose modules instance each other in rings: they tell a ring that may be told, so any of them.
pub record RingSays (bytes why : List ℕ) : Type 0 where
  pub names : List (List ℕ)
  pub is : IsAnswer bytes (Err (flat.Recursion names))
  pub words : why ≡ flat_words (flat.Recursion names)

-- why a text has no parts: with one fault, or with any of the rings in which its modules instance each other
pub data TextFault : Type 0 where
  with_one : FlatFault → TextFault
  in_rings : TextFault

abbrev pub with_fault : Result Parts FlatFault → Result Parts TextFault
with_fault (Ok raw) = Ok raw
with_fault (Err fault) = Err (with_one fault)

-- ---- what inner functions promise

-- the refusal has these words, unless memory ran out
abbrev pub HasWords : List ℕ → Refusal → Type 0
HasWords words Q.NoMemory = Unit {0}
HasWords words (Q.Why why) = why.items ≡ words

-- the refusal has words that go with a netlist that the check refuses, unless memory ran out
abbrev pub HasCheckWords : Parts → Refusal → Type 0
HasCheckWords r Q.NoMemory = Unit {0}
HasCheckWords r (Q.Why why) = FaultSays r why.items
