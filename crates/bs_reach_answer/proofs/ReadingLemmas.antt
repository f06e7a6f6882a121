-- An answer read line by line.
use Rattle.std.proofs.Common.{◌≡◌, ℕ, ◌+◌, List, [], ◌∷◌, refl, ap, ◌∙◌, ◌⊎◌, inl, inr}
use Rattle.std.specs.Prelude.{Result, Ok, Err}
use Rattle.bs_bits.specs.Lines.{pieces_of}
use Rattle.bs_bits.specs.Reading.{◌>>=◌}
use Rattle.bs_report.proofs.ReadingLemmas.{some_piece}
use Rattle.bs_reach_answer.specs.declared.place.NextLine.{NextLine}
use Rattle.bs_report.specs.declared.fault.ReportFault.{ReportFault}
use Rattle.bs_report.specs.declared.fault.ReportFault.TheVariants.{NoMemory}
use Rattle.bs_reach.specs.declared.reach.Reach.{Reach}
use Rattle.bs_reach_answer.specs.Reading.{Progress, followed, ended, answer_from}

-- one whole line
pub line_from : (n : ℕ) (place : NextLine) (r : Reach) (line rest : List ℕ) →
    answer_from n place r (line ∷ pieces_of rest) ≡ ◌>>=◌ (followed n place r line) (λ (y : Progress). answer_from (n + 1) y.0 y.1 (pieces_of rest))
line_from n place r line rest = by (pieces_of rest) (some_piece rest)
  where
    by : (pieces : List (List ℕ)) → ((p : List ℕ) × (ps : List (List ℕ)) × (pieces ≡ p ∷ ps)) →
        answer_from n place r (line ∷ pieces) ≡ ◌>>=◌ (followed n place r line) (λ (y : Progress). answer_from (n + 1) y.0 y.1 pieces)
    by [] s = cc
    by (p ∷ ps) s = refl

pub line_read : (all : Result Reach ReportFault) (n : ℕ) (place next : NextLine) (r after : Reach) (bytes line rest : List ℕ) →
    all ≡ answer_from n place r (pieces_of bytes) → pieces_of bytes ≡ line ∷ pieces_of rest → followed n place r line ≡ Ok (next, after) →
    all ≡ answer_from (n + 1) next after (pieces_of rest)
line_read all n place next r after bytes line rest e f g =
    e ∙ (ap (answer_from n place r) f
    ∙ (line_from n place r line rest
    ∙ ap (λ (x : Result Progress ReportFault). ◌>>=◌ x (λ (y : Progress). answer_from (n + 1) y.0 y.1 (pieces_of rest))) g))

pub line_refused : (all : Result Reach ReportFault) (n : ℕ) (place : NextLine) (r : Reach) (bytes line rest : List ℕ) (fault : ReportFault) →
    all ≡ answer_from n place r (pieces_of bytes) → pieces_of bytes ≡ line ∷ pieces_of rest → followed n place r line ≡ Err fault → all ≡ Err fault
line_refused all n place r bytes line rest fault e f g =
    e ∙ (ap (answer_from n place r) f
    ∙ (line_from n place r line rest
    ∙ ap (λ (x : Result Progress ReportFault). ◌>>=◌ x (λ (y : Progress). answer_from (n + 1) y.0 y.1 (pieces_of rest))) g))

pub lines_end : (all : Result Reach ReportFault) (n : ℕ) (place : NextLine) (r : Reach) (bytes : List ℕ) →
    all ≡ answer_from n place r (pieces_of bytes) → pieces_of bytes ≡ bytes ∷ [] → all ≡ ended place r bytes
lines_end all n place r bytes e f = e ∙ ap (answer_from n place r) f

pub line_faulty : (all : Result Reach ReportFault) (n : ℕ) (place : NextLine) (r : Reach) (bytes line rest : List ℕ) (fault : ReportFault) →
    all ≡ answer_from n place r (pieces_of bytes) → pieces_of bytes ≡ line ∷ pieces_of rest → (fault ≡ NoMemory) ⊎ (followed n place r line ≡ Err fault) →
    (fault ≡ NoMemory) ⊎ (all ≡ Err fault)
line_faulty all n place r bytes line rest fault e f (inl none) = inl none
line_faulty all n place r bytes line rest fault e f (inr g) = inr (line_refused all n place r bytes line rest fault e f g)
