-- The files of a page, one after the other, and what they make ready: a signature may be given.
use Rattle.std.specs.Prelude.{ℕ, false, List, Option, Some, None}
use Rattle.bs_net.specs.Parts.{Parts}
use Rattle.bs_scan.specs.Choice.{Chosen}
use Rattle.bs_outside.specs.declared.file.File.TheVariants as files
use Rattle.bs_outside.specs.Plan.{Plan, end, ◌>>=◌, read_as}
use Rattle.bs_top_files.specs.Entry.{netlist_of, signature_of}
use Rattle.bs_top_files.specs.Causes.{Case}
use Rattle.bs_inspect_files.specs.Fits.{known_in}
use Rattle.bs_inspect_files.specs.Taken.{TraceFiles, report_step, trace_files_in}
use Rattle.bs_inspect_files.specs.declared.ready.PageFiles.{PageFiles as CodePageFiles}

-- a netlist's parts and a report, and what the signature is taken of, where one is given
pub record PageFiles : Type 0 where
  pub trace_files : TraceFiles
  pub choice : Option Chosen

abbrev pub page_files_in : CodePageFiles → PageFiles
page_files_in t = record { trace_files = trace_files_in t.trace_files; choice = t.choice }

-- behind a report that is known and fits: whether the netlist has these names
abbrev pub known_step : List (List ℕ) → TraceFiles → Plan Case TraceFiles
known_step only trace_files = read_as files.Name (known_in trace_files.raw only) >>= λ known. end trace_files

-- behind the signature: the report, and whether the netlist has these names
abbrev pub picked_step : Parts → List ℕ → List (List ℕ) → Plan Case TraceFiles
picked_step raw report only = report_step false raw report >>= λ trace_files. known_step only trace_files

abbrev pub chosen_step : Parts → Option Chosen → List ℕ → List (List ℕ) → Plan Case PageFiles
chosen_step raw choice report only = picked_step raw report only >>= λ trace_files. end record { trace_files = trace_files; choice = choice }

-- behind the netlist: the signature, where there is one
abbrev pub signed_step : Parts → Option (List ℕ) → List ℕ → List (List ℕ) → Plan Case PageFiles
signed_step raw None report only = chosen_step raw None report only
signed_step raw (Some file) report only = signature_of raw file >>= λ choice. chosen_step raw (Some choice) report only

-- the netlist, the signature, where there is one, and the report, and last whether the netlist has these names
abbrev pub page_files_of : (netlist : List ℕ) → Option (List ℕ) → (report : List ℕ) → List (List ℕ) → Plan Case PageFiles
page_files_of netlist signature report only = netlist_of netlist >>= λ raw. signed_step raw signature report only
