-- The steps of a report, a line each (docs/FORMATS.md, "Texts of `backspace_inspect`").
use Rattle.std.specs.Prelude.{ℕ, ◌+◌, Bool, not, List, [], ◌∷◌, ◌++◌, length, map, codes, decimal, count_by, slice_index_or, slice_get, Option}
use Rattle.std.specs.Prelude.{Some, None, if◌then◌else◌}
use Rattle.std.specs.Bool.{beq}
use Rattle.std.specs.List.{flat_map, list_any, range_with_len}
use Rattle.bs_bits.specs.Lines.{line}
use Rattle.bs_report.specs.declared.report.Cand.{Cand}
use Rattle.bs_report.specs.declared.report.HitLine.{HitLine}
use Rattle.bs_report.specs.declared.report.ListEnd.{ListEnd}
use Rattle.bs_report.specs.declared.report.ListEnd.TheVariants.{Finished, Candidates, Conflicts}
use Rattle.bs_report.specs.declared.report.Report.{Report}
use Rattle.bs_report.specs.declared.report.Step.{Step}
use Rattle.bs_inspect_report.specs.Lemmas.{lemmas_logged}
use Rattle.bs_inspect_report.specs.Signal.{bit_at}

-- whether one of these candidates has another bit at a place than this state
abbrev pub differs_at : List Bool → List Cand → ℕ → Bool
differs_at first cands p = list_any (λ c. not (beq (bit_at c.state p) (bit_at first p))) cands

-- how many flip-flops differ among candidates
abbrev pub differing : List Cand → ℕ
differing [] = 0
differing (c ∷ cs) = count_by (differs_at c.state cs) (range_with_len 0 (length c.state))

-- for each flip-flop, whether candidates differ at it
abbrev pub differing_bits : List Cand → List Bool
differing_bits [] = []
differing_bits (c ∷ cs) = map (differs_at c.state cs) (range_with_len 0 (length c.state))

-- 1 where it is so, and else 0
abbrev pub one_if : Bool → ℕ
one_if is = if is then 1 else 0

abbrev pub list_word : ListEnd → List ℕ
list_word (Finished id) = codes "finished"
list_word Candidates = codes "candidates"
list_word Conflicts = codes "conflicts"

abbrev pub hit_words : Option HitLine → List ℕ
hit_words None = codes " nohit"
hit_words (Some hit) = codes " hit " ++ (decimal hit.run ++ (codes " " ++ decimal hit.cycle))

-- how many candidates the step with a number lists, and how many flip-flops differ among them
unfoldable pub list_words : (number cands differ : ℕ) → List ℕ
list_words number cands differ =
    codes "step " ++ (decimal number
    ++ (codes " candidates " ++ (decimal cands
    ++ (codes " differ " ++ decimal differ))))

-- how its list ended, how many lemmas it logged, and its hit
unfoldable pub end_words : ℕ → Step → List ℕ
end_words lemmas step =
    codes " list " ++ (list_word step.end
    ++ (codes " lemmas " ++ (decimal lemmas
    ++ hit_words step.hit)))

-- the line of a step with its number, and the lemmas that it logged
abbrev pub step_line : ℕ → ℕ → Step → List ℕ
step_line number lemmas step = line (list_words number (length step.cands) (differing step.cands) ++ end_words lemmas step)

abbrev pub step_piece : ℕ → List ℕ → Option Step → List ℕ
step_piece i lemmas None = []
step_piece i lemmas (Some step) = step_line (i + 1) (slice_index_or lemmas i 0) step

abbrev pub step_at : Report → List ℕ → ℕ → List ℕ
step_at r lemmas i = step_piece i lemmas (slice_get r.steps i)

-- a line for each step, numbered from 1
abbrev pub steps_lines : Report → List ℕ → List ℕ
steps_lines r lemmas = flat_map (step_at r lemmas) (range_with_len 0 (length r.steps))

-- the text tells each step once, in order
abbrev pub steps_text : Report → List ℕ
steps_text r = steps_lines r (lemmas_logged r.log)
