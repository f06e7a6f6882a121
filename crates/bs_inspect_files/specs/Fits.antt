-- Whether a report fits a netlist, and whether names are those of a netlist (docs/FORMATS.md, "Words of `backspace_inspect`").
use Rattle.std.specs.Prelude.{ℕ, ◌||◌, Bool, true, List, ◌++◌, codes, decimal, Option, Some, None, Result, Ok, Err, if◌then◌else◌}
use Rattle.bs_net.specs.Parts.{Parts}
use Rattle.bs_report.specs.declared.report.Report.{Report}
use Rattle.bs_outside.specs.Plan.{Reason, any_of}
use Rattle.bs_inspect_notes.specs.Names.{name_text}
use Rattle.bs_inspect_report.specs.Known.{first_unknown}
use Rattle.bs_inspect_report_texts.specs.Fits.{fit_fault}
use Rattle.bs_inspect_report_texts.specs.declared.misfit.FitFault.{FitFault}
use Rattle.bs_inspect_report_texts.specs.declared.misfit.FitFault.TheVariants.{State, Input, Astray, Candidate}
use Rattle.bs_top_files.specs.Readings.{is_known}
use Rattle.bs_top_files.specs.Causes.{Case, partial_reason, stated}
use Rattle.bs_inspect_values.specs.Saying.{all_keys}
use Rattle.bs_inspect_files.specs.Saying.{fault_text}
use Rattle.bs_inspect_files.specs.Words.{name_words}

-- ---- a report

abbrev pub fault_words : FitFault → List ℕ
fault_words (State i) = codes "TraceState " ++ decimal i
fault_words (Input i) = codes "TraceInput " ++ decimal i
fault_words (Astray i) = codes "TraceStep " ++ decimal i
fault_words (Candidate i) = codes "Candidate " ++ decimal i

abbrev pub fit_of : List ℕ → Option FitFault → Result Bool (Reason Case)
fit_of path None = Ok true
fit_of path (Some fault) = Err (any_of (stated (fault_words fault) (fault_text path fault)))

-- whether a trace is known as far as it has to be: all of it, where it may not be known in part
abbrev pub is_enough : (partial : Bool) → Report → Bool
is_enough partial report = partial || is_known report

-- the trace is known as far as it has to be, and the report fits the netlist
abbrev pub fit_in : (partial : Bool) → List ℕ → Parts → Report → Result Bool (Reason Case)
fit_in partial path r report = if is_enough partial report then fit_of path (fit_fault r report) else Err (partial_reason path)

-- ---- names

abbrev pub known_of : List (List ℕ) → Option (List ℕ) → Result Bool (Reason Case)
known_of keys None = Ok true
known_of keys (Some name) = Err (any_of (stated (name_words name) (name_text name keys)))

-- each name is that of a flip-flop, of a data input or of a vector of these, or the first one that is not
abbrev pub known_in : Parts → List (List ℕ) → Result Bool (Reason Case)
known_in r only = known_of (all_keys r) (first_unknown r only)
