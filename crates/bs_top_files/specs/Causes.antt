-- Why a file is refused, with the words of the refusal line and the note that go with each cause.
use Rattle.std.specs.Prelude.{◌≡◌, ◌≢◌, ℕ, List, max, Option, Some, None, Result, Ok, Err}
use Rattle.bs_net.specs.Parts.{Parts}
use Rattle.bs_net.specs.Check.{IsFault}
use Rattle.bs_net.specs.declared.fault.NetFault.{NetFault}
use Rattle.bs_net.specs.declared.fault.NetFault.TheVariants as net
use Rattle.bs_net_names.specs.Spots.{IsLineStart}
use Rattle.bs_flat_meaning.specs.declared.fault.FlatFault.{FlatFault}
use Rattle.bs_flat_meaning.specs.declared.fault.FlatFault.TheVariants as flat
use Rattle.bs_flat_meaning.specs.Reading.{IsAnswer}
use Rattle.bs_scan.specs.declared.fault.ChoiceFault.{ChoiceFault}
use Rattle.bs_scan.specs.declared.fault.DumpFault.{DumpFault}
use Rattle.bs_stim.specs.Runs.{Stimulus}
use Rattle.bs_stim.specs.declared.fault.StimFault.{StimFault}
use Rattle.bs_report.specs.declared.fault.ReportFault.{ReportFault}
use Rattle.bs_note_files.specs.declared.dump.Widths.{Widths}
use Rattle.bs_note_files.specs.Checks.{IsCheckNote}
use Rattle.bs_note_files.specs.Designs.{IsDesignNote}
use Rattle.bs_note_files.specs.Kinds.{mistaken, mistaken_text}
use Rattle.bs_note_files.specs.Notes.{Saying, IsPlacedNote}
use Rattle.bs_note_files.specs.Signatures.{IsSignatureNote}
use Rattle.bs_note_files.specs.Texts.{IsStimNote, IsDumpNote, IsReportNote}
use Rattle.bs_note_calls.specs.Faults.{large_text, partial_text, range_text}
use Rattle.bs_outside.specs.declared.file.File.{File}
use Rattle.bs_outside.specs.declared.file.File.TheVariants as files
use Rattle.bs_outside.specs.declared.file_fetch.Refusal.{Refusal}
use Rattle.bs_outside.specs.declared.file_fetch.Refusal.TheVariants as Q
use Rattle.bs_outside.specs.Plan.{Reason, any_of, Says}
use Rattle.bs_top_files.specs.Refusals.{FaultSays, RingSays, TextFault, with_one, in_rings}
use Rattle.bs_top_files.specs.Refusals.{dump_words, flat_words, partial_words, range_words, report_words, signature_words, stimulus_words, too_large_words}

-- A fault of the text of a file, by the file's name and that text; a netlist whose modules instance each other in rings; one that the
-- check refuses; what is said of the line with a number, with the words of the line; or these words and this note alone.
pub data Case : Type 0 where
  in_netlist : (path text : List ℕ) → FlatFault → Case
  in_ring : (path text : List ℕ) → Case
  in_check : (path text : List ℕ) → Parts → Case
  in_signature : (path text : List ℕ) → Parts → ChoiceFault → Case
  in_stimulus : (path text : List ℕ) → ℕ → StimFault → Case
  in_dump : (path text : List ℕ) → Widths → DumpFault → Case
  in_report : (path text : List ℕ) → ReportFault → Case
  at_line : (words path text : List ℕ) → ℕ → Saying → Case
  stated : (words note : List ℕ) → Case

-- ---- the refusal line

-- the words that go with a cause
abbrev pub CheckSays : Case → List ℕ → Type 0
CheckSays (in_netlist path text fault) why = why ≡ flat_words fault
CheckSays (in_ring path text) why = RingSays text why
CheckSays (in_check path text r) why = FaultSays r why
CheckSays (in_signature path text r fault) why = why ≡ signature_words fault
CheckSays (in_stimulus path text width fault) why = why ≡ stimulus_words fault
CheckSays (in_dump path text widths fault) why = why ≡ dump_words fault
CheckSays (in_report path text fault) why = why ≡ report_words fault
CheckSays (at_line words path text number says) why = why ≡ words
CheckSays (stated words note) why = why ≡ words

-- ---- the note

-- the note tells a fault for which the check may refuse the parts
pub record IsNoteOnCheck (r : Parts) (path text note : List ℕ) : Type 0 where
  pub fault : NetFault
  pub told : fault ≢ net.NoMemory
  pub is : IsFault r fault
  pub written : IsCheckNote r path text fault note

-- the note tells a ring in which the modules of the text instance each other
pub record IsNoteOnRing (path text note : List ℕ) : Type 0 where
  pub names : List (List ℕ)
  pub is : IsAnswer text (Err (flat.Recursion names))
  pub written : IsDesignNote path text (flat.Recursion names) note

-- the note says this on the front of the line with the number, from 1, or on the text's end where it has fewer lines
pub record IsNoteAtLine (path text : List ℕ) (number : ℕ) (says : Saying) (note : List ℕ) : Type 0 where
  pub start : ℕ
  pub begins : IsLineStart text (max number 1) start
  pub placed : IsPlacedNote path text start says note

-- the note says that the text seems to be this other file of a job, where it does, and else what it says of the text's fault
abbrev pub seems_as : File → List ℕ → Option File → (List ℕ → Type 0) → List ℕ → Type 0
seems_as file path (Some kind) ordinary note = note ≡ mistaken_text file kind path
seems_as file path None ordinary note = ordinary note

abbrev pub told_as : File → (path text : List ℕ) → (List ℕ → Type 0) → List ℕ → Type 0
told_as file path text ordinary note = seems_as file path (mistaken file text) ordinary note

-- the notes that go with a cause
abbrev pub NoteSays : Case → List ℕ → Type 0
NoteSays (in_netlist path text fault) note = told_as files.Netlist path text (IsDesignNote path text fault) note
NoteSays (in_ring path text) note = told_as files.Netlist path text (IsNoteOnRing path text) note
NoteSays (in_check path text r) note = IsNoteOnCheck r path text note
NoteSays (in_signature path text r fault) note = told_as files.Signature path text (IsSignatureNote r path text fault) note
NoteSays (in_stimulus path text width fault) note = told_as files.Stimulus path text (IsStimNote path text width fault) note
NoteSays (in_dump path text widths fault) note = told_as files.Dump path text (IsDumpNote path text widths fault) note
NoteSays (in_report path text fault) note = told_as files.Report path text (IsReportNote path text fault) note
NoteSays (at_line words path text number says) note = IsNoteAtLine path text number says note
NoteSays (stated words these) note = note ≡ these

-- ---- causes as reasons of a job

abbrev pub text_reason : (path text : List ℕ) → TextFault → Reason Case
text_reason path text (with_one fault) = any_of (in_netlist path text fault)
text_reason path text in_rings = any_of (in_ring path text)

abbrev pub check_reason : (path text : List ℕ) → Parts → Reason Case
check_reason path text r = any_of (in_check path text r)

abbrev pub signature_reason : Parts → (path text : List ℕ) → ChoiceFault → Reason Case
signature_reason r path text fault = any_of (in_signature path text r fault)

abbrev pub stimulus_reason : ℕ → (path text : List ℕ) → StimFault → Reason Case
stimulus_reason width path text fault = any_of (in_stimulus path text width fault)

abbrev pub dump_reason : Widths → (path text : List ℕ) → DumpFault → Reason Case
dump_reason widths path text fault = any_of (in_dump path text widths fault)

abbrev pub report_reason : (path text : List ℕ) → ReportFault → Reason Case
report_reason path text fault = any_of (in_report path text fault)

abbrev pub range_reason : Stimulus → ℕ → Reason Case
range_reason runs run = any_of (stated range_words (range_text runs run))

abbrev pub too_large_reason : List ℕ → Reason Case
too_large_reason path = any_of (stated too_large_words (large_text path))

abbrev pub partial_reason : List ℕ → Reason Case
partial_reason path = any_of (stated partial_words (partial_text path))

-- what a reader's definition wants, with a reason for its fault
abbrev pub with_reason : {V F : Type 0} → (F → Reason Case) → Result V F → Result V (Reason Case)
with_reason reason (Ok v) = Ok v
with_reason reason (Err fault) = Err (reason fault)

-- ---- what inner functions promise

-- the refusal has a note that goes with the reason, unless memory ran out
abbrev pub HasNote : Reason Case → Refusal → Type 0
HasNote reason Q.NoMemory = Unit {0}
HasNote reason (Q.Why note) = Says NoteSays reason note.items
