-- What texts are to a request that shows a trace, computed.
use Rattle.std.proofs.Common.{◌≡◌, ℕ, List, true, false, [], ◌∷◌, refl, Ok, Err}
use Rattle.std.specs.Prelude.{codes}
use Rattle.std.specs.Fmt.{digits}
use Rattle.bs_report.specs.declared.report.Stop.TheVariants as stops
use Rattle.bs_reach_answer.specs.Reading.{answer_in}
use Rattle.bs_reach_answer.specs.Shown.{execution_report}
use Rattle.bs_outside.specs.Plan.{any_of}
use Rattle.bs_top_files.specs.Causes.{at_line, stated}
use Rattle.bs_reach_answer.specs.Readings.{answer_read, is_answer, trace_read}
use Rattle.bs_reach_answer.specs.Words.{answer_saying, no_trace_text, short_text}

-- an execution of one cycle, from 0 to 1
reached : (path : List ℕ) → trace_read path (codes "reach 1\nasked 2 conflicts 9\nresult reached 1\nstate 0\ninput 1\nstate 1\nlog 2\ns\nr 9\nend\n") ≡
    Ok (record {
      depth = 1;
      budgets = record { steps = 0; candidates = 0; conflicts = 9 };
      steps = [];
      stop = stops.Reset;
      states = (false ∷ []) ∷ (true ∷ []) ∷ [];
      free = [];
      inputs = (true ∷ []) ∷ [];
      log = [];
    })
unfolding answer_in execution_report
reached path = refl

-- ---- refusals

unreached : (path : List ℕ) → trace_read path (codes "reach 1\nasked 2 conflicts 9\nresult unreached\nlog 0\nend\n") ≡ Err (any_of (stated (codes "NoTrace") (no_trace_text path)))
unfolding answer_in execution_report
unreached path = refl

undecided : (path : List ℕ) → trace_read path (codes "reach 1\nasked 2 conflicts 9\nresult unknown 2\nlog 0\nend\n") ≡ Err (any_of (stated (codes "NoTrace") (no_trace_text path)))
unfolding answer_in execution_report
undecided path = refl

-- a line of another form, and an end that is missing
abbrev without_conflicts : List ℕ
without_conflicts = codes "reach 1\nasked 2\n"

another_form : (path : List ℕ) → trace_read path without_conflicts ≡ Err (any_of (at_line (codes "Line 2") path without_conflicts 2 answer_saying))
unfolding answer_in execution_report digits
another_form path = refl

no_end : (path : List ℕ) → trace_read path (codes "reach 1\nasked 2 conflicts 9\n") ≡ Err (any_of (stated (codes "Short") (short_text path)))
unfolding answer_in execution_report
no_end path = refl

-- a report is no answer
abbrev report_head : List ℕ
report_head = codes "backspace 1\nasked 4 256 100000\n"

a_report : is_answer report_head ≡ false
a_report = refl

given_as_answer : (path : List ℕ) → answer_read path report_head ≡ Err (any_of (at_line (codes "Line 1") path report_head 1 answer_saying))
unfolding answer_in digits
given_as_answer path = refl
