-- The line that tells what the backtrace of a generated job found.
use Rattle.std.specs.Prelude.{ℕ, Bool, true, false, List, ◌++◌, codes, decimal, length, count_by}
use Rattle.std.specs.List.{sum_by}
use Rattle.bs_bits.specs.Lines.{line}
use Rattle.bs_report.specs.declared.report.ListEnd.{ListEnd}
use Rattle.bs_report.specs.declared.report.ListEnd.TheVariants.{Finished, Candidates, Conflicts}
use Rattle.bs_report.specs.declared.report.Step.{Step}
use Rattle.bs_report.specs.declared.report.Report.{Report}
use Rattle.bs_report.specs.Text.{stop_word}

abbrev pub is_finished_end : ListEnd → Bool
is_finished_end (Finished id) = true
is_finished_end Candidates = false
is_finished_end Conflicts = false

abbrev pub is_finished : Step → Bool
is_finished step = is_finished_end step.end

-- the candidates of all lists
abbrev pub listed_in : List Step → ℕ
listed_in steps = sum_by (λ step. length step.cands) steps

abbrev pub summary_text : ℕ → Report → List ℕ
summary_text number r =
    line
    (codes "demo " ++ decimal number ++ (codes " steps " ++ decimal (length r.steps))
    ++ (codes " finished " ++ decimal (count_by is_finished r.steps)) ++ (codes " listed " ++ decimal (listed_in r.steps))
    ++ codes " stop " ++ stop_word r.stop)
