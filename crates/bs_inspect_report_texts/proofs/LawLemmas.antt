-- A good report has a test bench.
use Rattle.std.proofs.Common.{◌≡◌, ℕ, ◌<◌, ◌+◌, Bool, List, [], length, get_or, ap, sym, subst, ◌∙◌, arith, Option, Some}
use Rattle.std.specs.List.{range_with_len}
use Rattle.std.proofs.lemmas.List.FromFn.{get_or-map-range_with_len, length-map-range_with_len}
use Rattle.bs_net.specs.Circuit.{Circuit}
use Rattle.bs_scan.specs.Crash.{Crash}
use Rattle.bs_scan.specs.Moments.{Moment, Run, state_at}
use Rattle.bs_report.specs.declared.report.Report.{Report}
use Rattle.bs_report.specs.GoodLaw.{EndsExecution, TracesEndExecutions, continued}
use Rattle.bs_inspect_report_texts.specs.Driven.{GoesOn, IsThere, begin_of, cycles_before, driven, driven_from}
use Rattle.bs_inspect_report_texts.specs.Law.{GoodReportsHaveBenches, HasBench}

-- by the moment that is reached
goes_by : (crash : Crash) (r : Report) (ends : EndsExecution crash r) → GoesOn crash.circuit (continued crash.runs ends.reached r.inputs) ends.reached.cycle r.states
goes_by crash r ends = record {
  each = λ i lt.
      let f : ℕ → List Bool = state_at crash.circuit (continued crash.runs ends.reached r.inputs) in
      let n : ℕ = length r.inputs + 1 in
      let short : i < n = omega (arith, lt, ap length ends.states, length-map-range_with_len f ends.reached.cycle n) in
      let there : get_or r.states i [] ≡ f (ends.reached.cycle + i) =
      ap (λ (states : List (List Bool)). get_or states i []) ends.states
      ∙ get_or-map-range_with_len f ends.reached.cycle n i (ends.reached.cycle + i) [] short (omega arith) in
      sym there;
}

abbrev Goes : Crash → Report → Option Moment → Type 0
Goes crash r o = GoesOn crash.circuit (driven_from crash.runs r.inputs o) (cycles_before o) r.states

has_bench : (crash : Crash) (r : Report) → EndsExecution crash r → HasBench crash.circuit crash.runs r
has_bench crash r ends = record {
  begins = subst (IsThere crash.runs) (sym ends.last) ends.recorded;
  through = subst (Goes crash r) (sym ends.last) (goes_by crash r ends);
}

pub benches_are_had : TracesEndExecutions → GoodReportsHaveBenches
benches_are_had ends = λ crash r is good some. has_bench crash r (ends crash r is good some)
