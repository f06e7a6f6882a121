-- What is told of a report, as the answer to its request.
use Rattle.std.proofs.Common.{◌≡◌, ℕ, ◌≤◌, ◌+◌, ◌*◌, List, [], get_or, Option, None, subst}
use Rattle.std.specs.Prelude.{Bool}
use Rattle.bs_inspect_view.specs.Drawn.{ViewRequest}
use Rattle.bs_inspect_view.specs.Save.{IsSaveFile}
use Rattle.bs_inspect_view.specs.View.{IsDrawing}
use Rattle.bs_inspect_html.specs.Signed.{SignatureFile}
use Rattle.bs_inspect_page.specs.Page.{PageOptions, ShowsReport}
use Rattle.bs_report.specs.declared.report.Report.{Report}
use Rattle.bs_net.specs.Circuit.{next}
use Rattle.bs_net.specs.Netlist.{Checked, circuit}
use Rattle.bs_net.specs.Parts.{Parts}
use Rattle.bs_net.proofs.NextLemmas.{bits_eq_Decides}
use Rattle.bs_scan.specs.Moments.{Run}
use Rattle.bs_stim.specs.Runs.{inputs_of}
use Rattle.bs_outside.specs.declared.status.Status.{Status}
use Rattle.bs_inspect_causes.specs.Accounts.{LeadsOn}
use Rattle.bs_inspect_why.specs.Question.{Question}
use Rattle.bs_inspect_why.specs.Why.{Answers}
use Rattle.bs_inspect_files.specs.Taken.{BenchFiles, TraceFiles}
use Rattle.bs_inspect_report_texts.specs.Bench.{BenchAnswers}
use Rattle.bs_inspect_report_texts.specs.Fits.{fit_fault}
use Rattle.bs_inspect_report_texts.proofs.FitLemmas.{fit_leads}
use Rattle.bs_inspect_report_texts.specs.declared.fault.Bench.{Bench}
use Rattle.bs_inspect_why.specs.declared.denial.WhyAnswer.{WhyAnswer}
use Rattle.bs_inspect_plans.specs.Finishes.{TellsBench, TellsReasons, bench_status, bench_text, why_status, why_text}

-- a question whose number of layers is this
pub question_is : (q : Question) (depth : ℕ) → depth ≡ q.depth →
    record { name = q.name; at = q.at; depth = depth; flops = q.flops; all = q.all; csv = q.csv } ≡ q
question_is q depth e =
    λ i. record { name = q.name; at = q.at; depth = e i; flops = q.flops; all = q.all; csv = q.csv }

-- the trace of a report that fits leads on
pub leads_on : (net : Checked) (r : Report) → None ≡ fit_fault net.raw r → LeadsOn (circuit net) r.states r.inputs
leads_on net r e = record {
  each = λ t lt.
      (bits_eq_Decides (get_or r.states (t + 1) []) (next (circuit net) (get_or r.states t []) (get_or r.inputs t []))).0 (fit_leads net r e t lt);
}

-- an answer to `why`
pub reasons_told : (q : Question) (t : TraceFiles) (answer : WhyAnswer) (status : Status) (text : List ℕ) → Answers t.raw t.report q answer →
    status ≡ why_status answer → text ≡ why_text answer → TellsReasons q t status text
reasons_told q t answer status text right answered written = record { answer = answer; right = right; answered = answered; written = written }

-- a bench of the module with this name
pub bench_as : (raw : Parts) (runs : List Run) (r : Report) (given top : List ℕ) (answer : Bench) → given ≡ top → BenchAnswers raw runs r given answer →
    BenchAnswers raw runs r top answer
bench_as raw runs r given top answer e h = subst (λ (t : List ℕ). BenchAnswers raw runs r t answer) e h

-- an answer to `bench`
pub bench_told : (top : List ℕ) (t : BenchFiles) (answer : Bench) (status : Status) (text : List ℕ) →
    BenchAnswers t.run_files.raw (inputs_of t.run_files.runs) t.report top answer → status ≡ bench_status answer → text ≡ bench_text answer →
    TellsBench top t status text
bench_told top t answer status text right answered written = record { answer = answer; right = right; answered = answered; written = written }

pub question_told : (given q : Question) (t : TraceFiles) (status : Status) (text : List ℕ) → given ≡ q → TellsReasons given t status text →
    TellsReasons q t status text
question_told given q t status text e h = subst (λ (x : Question). TellsReasons x t status text) e h

-- an answer is within the room of what was searched
pub room_asked : (cycles asked variables most : ℕ) → cycles ≡ asked → cycles * variables ≤ most → asked * variables ≤ most
room_asked cycles asked variables most e h = subst (λ (n : ℕ). n * variables ≤ most) e h

-- a waveform with comments and recorded moments that are these
pub drawn_as : (asked : List ℕ → List (Option (ℕ × ℕ)) → ViewRequest) (raw : Parts) (given lines : List ℕ) (found moments : List (Option (ℕ × ℕ)))
    (states inputs : List (List Bool)) (text : List ℕ) → given ≡ lines → found ≡ moments → IsDrawing raw (asked given found) states inputs text →
    IsDrawing raw (asked lines moments) states inputs text
drawn_as asked raw given lines found moments states inputs text e f h =
    subst (λ (ms : List (Option (ℕ × ℕ))). IsDrawing raw (asked lines ms) states inputs text) f
    (subst (λ (ls : List ℕ). IsDrawing raw (asked ls found) states inputs text) e h)

-- a page with a signature that is this
pub page_as : (asked : Option SignatureFile → PageOptions) (raw : Parts) (r : Report) (given own : Option SignatureFile) (text : List ℕ) → given ≡ own →
    ShowsReport raw r (asked given) text → ShowsReport raw r (asked own) text
page_as asked raw r given own text e h = subst (λ (s : Option SignatureFile). ShowsReport raw r (asked s) text) e h

-- a save file over so many states as there are
pub saved_as : (raw : Parts) (asked : ViewRequest) (wave : List ℕ) (count own : ℕ) (text : List ℕ) → count ≡ own →
    IsSaveFile raw asked wave count text → IsSaveFile raw asked wave own text
saved_as raw asked wave count own text e h = subst (λ (n : ℕ). IsSaveFile raw asked wave n text) e h
