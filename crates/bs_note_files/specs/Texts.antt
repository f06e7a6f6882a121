-- Notes on texts that are no stimulus, no dump and no report.
use Rattle.std.specs.Prelude.{◌≡◌, ℕ, ◌==◌, ◌&&◌, not, List, codes, length, if◌then◌else◌}
use Rattle.bs_stim.specs.declared.fault.StimFault.{StimFault}
use Rattle.bs_stim.specs.declared.fault.StimFault.TheVariants as stimulus
use Rattle.bs_scan.specs.declared.fault.DumpFault.{DumpFault}
use Rattle.bs_scan.specs.declared.fault.DumpFault.TheVariants as dump
use Rattle.bs_report.specs.declared.fault.ReportFault.{ReportFault}
use Rattle.bs_report.specs.declared.fault.ReportFault.TheVariants as report
use Rattle.bs_note_files.specs.declared.dump.Widths.{Widths}
use Rattle.bs_note_files.specs.Notes.{Saying, saying, file_text, IsNoteOn}
use Rattle.bs_note_files.specs.Flaws.{IsLineNote, IsStartNote}
use Rattle.bs_net_names.specs.Splits.{behind}
use Rattle.bs_note_files.specs.Sayings.{run_form, inputs_saying, count_saying, runs_saying, cycles_saying, bits_in, width_text, dump_form}
use Rattle.bs_note_files.specs.Sayings.{reset_saying, report_form, short_saying}

abbrev pub IsStimNote : List ℕ → List ℕ → ℕ → StimFault → List ℕ → Type 0
IsStimNote path text width stimulus.NoRun note = note ≡ file_text path (codes "the file has no run")
IsStimNote path text width (stimulus.Line number) note = IsLineNote path text number run_form note
IsStimNote path text width (stimulus.Width number) note = IsStartNote path text number (inputs_saying width) note
IsStimNote path text width (stimulus.Count number) note = IsStartNote path text number count_saying note
IsStimNote path text width (stimulus.TooManyRuns number) note = IsStartNote path text number (λ line. runs_saying) note
IsStimNote path text width (stimulus.TooManyCycles number) note = IsStartNote path text number (λ line. cycles_saying) note
IsStimNote path text width stimulus.NoMemory note = note ≡ file_text path (codes "memory ran out")

-- how many bits a line of a dump has, and how many are due
abbrev pub bits_text : Widths → ℕ → List ℕ → List ℕ
bits_text widths number line =
    if number == 1 then width_text (bits_in (behind 32 line)) widths.flops (codes "flip-flop of the netlist")
    else width_text (bits_in (behind 32 line)) widths.items (codes "item of the signature")

-- what to look at: a signature file without a line has no item
abbrev pub bits_label : Widths → ℕ → List ℕ
bits_label widths number =
    if widths.items == 0 && not (number == 1) then codes "the signature file has no line: is it the right one, and was it emptied?"
    else codes "is the dump of this netlist, with this signature?"

abbrev pub bits_saying : Widths → ℕ → List ℕ → Saying
bits_saying widths number line = saying (bits_text widths number line) (bits_label widths number)

abbrev pub IsDumpNote : List ℕ → List ℕ → Widths → DumpFault → List ℕ → Type 0
IsDumpNote path text widths (dump.Line number) note = IsLineNote path text number (dump_form widths.depth number) note
IsDumpNote path text widths (dump.Width number) note = IsStartNote path text number (bits_saying widths number) note
IsDumpNote path text widths dump.NotReset note = IsNoteOn path text 0 reset_saying note
IsDumpNote path text widths dump.NoMemory note = note ≡ file_text path (codes "memory ran out")

abbrev pub IsReportNote : List ℕ → List ℕ → ReportFault → List ℕ → Type 0
IsReportNote path text (report.Line number) note = IsLineNote path text number report_form note
IsReportNote path text report.Short note = IsNoteOn path text (length text) short_saying note
IsReportNote path text report.Extra note =
    note ≡ file_text path (codes "bytes follow the line `end` of the report: a file holds one report and nothing else")
IsReportNote path text report.NoMemory note = note ≡ file_text path (codes "memory ran out")
