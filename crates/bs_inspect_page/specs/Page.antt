-- The page of a report (docs/FORMATS.md, "The page").
use Rattle.std.specs.Prelude.{◌≡◌, ℕ, ◌==◌, nat_lt, not, ◌&&◌, ◌||◌, Bool, List, [], ◌++◌, length, codes, filter, take, map, option_map, Option, Some, None, if◌then◌else◌}
use Rattle.bs_net.specs.Parts.{Parts}
use Rattle.bs_inspect_view.specs.Signals.{AreSignals, Signal}
use Rattle.bs_report.specs.declared.report.Report.{Report}
use Rattle.bs_report.specs.declared.report.Step.{Step}
use Rattle.bs_inspect_html.specs.Cells.{Figure, is_lively}
use Rattle.bs_inspect_page.specs.Rows.{group_text}
use Rattle.bs_inspect_report.specs.Execution.{is_execution}
use Rattle.bs_inspect_report.specs.Keys.{flop_keys, input_keys}
use Rattle.bs_inspect_report.specs.Steps.{differing_bits}
use Rattle.bs_inspect_view.specs.Drawn.{is_nameless}
use Rattle.bs_inspect_page.specs.Columns.{columns_text}
use Rattle.bs_inspect_html.specs.Front.{front_text}
use Rattle.bs_inspect_html.specs.Reads.{signed_of}
use Rattle.bs_inspect_html.specs.Signed.{SignatureFile, file_in}
use Rattle.bs_inspect_page.specs.Last.{has_open, list_text, unmet_list}
use Rattle.bs_inspect_page.specs.Opens.{opens_of}
use Rattle.bs_inspect_page.specs.Steps.{steps_part}
use Rattle.bs_inspect_page.specs.declared.options.PageOptions.{PageOptions as CodeAsked}

-- the names of the two files, the signature where one is given, the names of the signals that are drawn alone, where there are any, and how
-- many are drawn at most
pub record PageOptions : Type 0 where
  pub netlist : List ℕ
  pub report : List ℕ
  pub signature : Option SignatureFile
  pub only : List (List ℕ)
  pub most : ℕ

abbrev pub asked_in : CodeAsked → PageOptions
asked_in a = record {
  netlist = a.netlist.now;
  report = a.report.now;
  signature = option_map file_in a.signature;
  only = map (λ s. s.now) a.only.now;
  most = a.most;
}

-- ---- the signals that are drawn

-- the states of the trace, the bits that are open in each, and for each flip-flop whether the signature reads it
abbrev pub state_figure : Report → List (List Bool) → List Bool → Figure
state_figure r opens signed = record { moments = r.states; opens = opens; signed = signed }

-- a signature reads no data input
abbrev pub input_figure : Report → Figure
input_figure r = record { moments = r.inputs; opens = []; signed = [] }

-- one that is asked for; else one whose name somebody gave, where it is open or changes, or where there is but one state
abbrev pub is_on_page : PageOptions → Figure → Signal → Bool
is_on_page a f s = nat_lt 0 (length a.only) || (not (is_nameless s.base) && ((length f.moments == 1) || is_lively f s.places))

-- the first of those that are drawn
abbrev pub drawn_flops_of : PageOptions → Figure → List Signal → List Signal
drawn_flops_of a f signals = take a.most (filter (is_on_page a f) signals)

-- the flip-flops that are drawn, with the names of a netlist
pub record AreDrawnFlops (raw : Parts) (a : PageOptions) (f : Figure) (drawn : List Signal) : Type 0 where
  pub signals : List Signal
  pub are : AreSignals a.only (flop_keys raw) signals
  pub kept : drawn ≡ drawn_flops_of a f signals

-- the data inputs that are drawn: the first ones
pub record AreDrawnInputs (raw : Parts) (a : PageOptions) (drawn : List Signal) : Type 0 where
  pub signals : List Signal
  pub are : AreSignals a.only (input_keys raw) signals
  pub kept : drawn ≡ take a.most signals

-- ---- the flip-flops of the last list

-- one that is asked for; else one whose name somebody gave, where candidates differ, or where there is but one candidate
abbrev pub is_listed : PageOptions → Bool → List Bool → Signal → Bool
is_listed a alone bits s = nat_lt 0 (length a.only) || (not (is_nameless s.base) && (alone || has_open bits s.places))

-- the first of those that are shown
abbrev pub listed_of : PageOptions → Step → List Signal → List Signal
listed_of a step signals = take a.most (filter (is_listed a (length step.cands == 1) (differing_bits step.cands)) signals)

-- the flip-flops that are shown, with the names of a netlist
pub record AreListed (raw : Parts) (a : PageOptions) (step : Step) (listed : List Signal) : Type 0 where
  pub signals : List Signal
  pub are : AreSignals a.only (flop_keys raw) signals
  pub kept : listed ≡ listed_of a step signals

-- the text shows the list of a step
pub record ShowsList (raw : Parts) (a : PageOptions) (signed : List Bool) (step : Step) (text : List ℕ) : Type 0 where
  pub flops : List Signal
  pub are : AreListed raw a step flops
  pub shown : text ≡ list_text signed step flops

-- the text shows the list of a step, and is empty where there is no step
abbrev pub ShowsAny : Parts → PageOptions → List Bool → Option Step → List ℕ → Type 0
ShowsAny raw a signed None text = text ≡ []
ShowsAny raw a signed (Some step) text = ShowsList raw a signed step text

-- the text shows the last list, if it has no hit
pub record ShowsLast (raw : Parts) (r : Report) (a : PageOptions) (signed : List Bool) (text : List ℕ) : Type 0 where
  pub is : ShowsAny raw a signed (unmet_list r) text

-- ---- the text

-- what stands above the table
abbrev pub trace_words : Report → List ℕ
trace_words r =
    if is_execution r
    then codes "<h2 id='t'>Trace</h2>\n<p class='d'>Cycle 0 is reset, and the last state is the one that was asked for. A vector is a number of base 16.</p>\n"
    else codes "<h2 id='t'>Trace</h2>\n<p class='d'>Where a cell is hatched, other candidates of that list differ. A vector is a number of base 16.</p>\n"

-- what a mark beside a name means, where there is a signature
abbrev pub legend_text : Option SignatureFile → List ℕ
legend_text None = []
legend_text (Some s) = codes "<p class='d'>Where <b>signature</b> stands beside a name, an item of the signature reads a flip-flop of that signal, alone or in a parity.</p>\n"

abbrev pub table_front : List ℕ
table_front = codes "<div class='late' tabindex='0' role='region' aria-labelledby='t'><table class='w'>\n"

unfoldable pub trace_front : Report → Option SignatureFile → List ℕ
trace_front r signature = trace_words r ++ (legend_text signature ++ (table_front ++ columns_text r))

abbrev pub end_text : Report → List ℕ
end_text r =
    if is_execution r
    then codes "</table></div>\n<p class='d'>An execution is a way from reset to the state that was asked for, not surely the only one. The values of a cycle are those before its clock edge.</p>\n</body></html>\n"
    else codes "</table></div>\n<p class='d'>A trace is a way from its first state to the dump, not surely the one that the chip took. The values of a cycle are those before its clock edge; the inputs of the dump's own cycle are not known.</p>\n</body></html>\n"

abbrev pub inputs_heading : List ℕ
inputs_heading = codes "data inputs, in the cycle behind the state"

abbrev pub flops_heading : List ℕ
flops_heading = codes "flip-flops"

unfoldable pub trace_text : Report → Option SignatureFile → Figure → (flops inputs : List Signal) → List ℕ
trace_text r signature f flops inputs =
    trace_front r signature
    ++ (group_text inputs_heading (input_figure r) inputs ++ (group_text flops_heading f flops ++ end_text r))

-- the steps of a backtrace
abbrev pub steps_shown : Report → List ℕ
steps_shown r = if is_execution r then [] else steps_part r

unfoldable pub page_text : PageOptions → Parts → Report → Figure → (last : List ℕ) → (flops inputs : List Signal) → List ℕ
page_text a raw r f last flops inputs =
    front_text raw r a.netlist a.signature a.report ++ (steps_shown r ++ (last ++ trace_text r a.signature f flops inputs))

-- the text is the page of a report with the names of a netlist, and this figure of its states; where names are given, these signals alone
pub record ShowsFigure (raw : Parts) (r : Report) (a : PageOptions) (f : Figure) (text : List ℕ) : Type 0 where
  pub last : List ℕ
  pub flops : List Signal
  pub inputs : List Signal
  pub is_last : ShowsLast raw r a f.signed last
  pub are_flops : AreDrawnFlops raw a f flops
  pub are_inputs : AreDrawnInputs raw a inputs
  pub shown : text ≡ page_text a raw r f last flops inputs

-- the same where those bits are open at which other candidates of a list differ, and those flip-flops are read that an item of the
-- signature has
abbrev pub ShowsReport : Parts → Report → PageOptions → List ℕ → Type 0
ShowsReport raw r a text = ShowsFigure raw r a (state_figure r (opens_of r) (signed_of a.signature)) text
