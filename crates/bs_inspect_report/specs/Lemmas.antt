-- How many lemmas each step of a log has.
use Rattle.std.specs.Prelude.{ℕ, ◌+◌, List, [], ◌∷◌, map, count_by}
use Rattle.bs_log.specs.declared.line.Line.{Line}
use Rattle.bs_log.specs.declared.line.Line.TheVariants.{Lemma, Retire}
use Rattle.bs_log.specs.Steps.{steps_of, is_lemma_line}

-- the lemmas of each step up to its retire line
abbrev pub lemmas_logged : List Line → List ℕ
lemmas_logged log = map (λ lines. count_by is_lemma_line lines) (steps_of log)

-- the same, where the first step has so many already
abbrev pub counted_from : ℕ → List Line → List ℕ
counted_from count [] = []
counted_from count (Lemma id lits hints ∷ rest) = counted_from (count + 1) rest
counted_from count (Retire id ∷ rest) = count ∷ counted_from 0 rest
counted_from count (line ∷ rest) = counted_from count rest
