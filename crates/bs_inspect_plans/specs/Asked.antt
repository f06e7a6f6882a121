-- What a request asks of the values of a simulator and of a waveform.
use Rattle.std.specs.Prelude.{ℕ, Bool, List, Option, Some, None}
use Rattle.bs_inspect_view.specs.Drawn.{ViewRequest}
use Rattle.bs_scan.specs.Choice.{Chosen}
use Rattle.bs_inspect_html.specs.Signed.{SignatureFile}
use Rattle.bs_inspect_page.specs.Page.{PageOptions}
use Rattle.bs_inspect_why.specs.Question.{Question}
use Rattle.bs_inspect_words.specs.Request.{CheckRequest, DumpRequest, PageRequest, StimulusRequest, WhyRequest}
use Rattle.bs_inspect_usages.specs.declared.window.TraceWindow.{TraceWindow}
use Rattle.bs_inspect_report.specs.declared.window.Window.{Window}
use Rattle.bs_inspect_files.specs.Checked.{CheckFiles}
use Rattle.bs_inspect_values.specs.Dumped.{DumpFiles}
use Rattle.bs_inspect_values.specs.Simulated.{Clocked}

abbrev pub clocked_of : StimulusRequest → Clocked
clocked_of t = record { clock = t.clock; scope = t.scope }

abbrev pub dump_files : DumpRequest → DumpFiles
dump_files t = record {
  netlist = t.netlist;
  vcd = t.vcd;
  at = t.at;
  clock = t.clock;
  scope = t.scope;
  names = t.names;
  signature = t.signature;
  partial = t.partial;
}

abbrev pub check_files : CheckRequest → CheckFiles
check_files t = record { netlist = t.netlist; stimulus = t.runs; clock = t.clock; scope = t.scope; names = t.names }

-- which states of a trace are told
abbrev pub window_of : TraceWindow → Window
window_of t = record { from = t.from; to = t.to; last = t.last }

-- what is asked of a waveform, with these comments, and the moments at which its states were recorded
abbrev pub drawing_of : (from : ℕ) → Bool → List (List ℕ) → List ℕ → List (Option (ℕ × ℕ)) → ViewRequest
drawing_of from all only lines moments = record { from = from; all = all; only = only; remarks = lines; recorded = moments }

-- a signature, where there is one: the name of its file, and what it is taken of
abbrev pub signature_file : (name : Option (List ℕ)) → Option Chosen → Option SignatureFile
signature_file (Some name) (Some choice) = Some record { name = name; choice = choice }
signature_file name choice = None

-- what is asked of a page
abbrev pub page_for : (netlist report : List ℕ) → (signature : Option (List ℕ)) → Option Chosen → List (List ℕ) → ℕ → PageOptions
page_for netlist report signature choice only most =
    record { netlist = netlist; report = report; signature = signature_file signature choice; only = only; most = most }

abbrev pub page_options : PageRequest → Option Chosen → PageOptions
page_options t choice = page_for t.netlist t.report t.signature choice t.only t.most

-- what is asked of a trace
abbrev pub question_of : WhyRequest → Question
question_of t = record { name = t.name; at = t.at; depth = t.depth; flops = t.flops; all = t.all; csv = t.csv }
