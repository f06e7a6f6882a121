-- A report read line by line.
use Rattle.std.proofs.Common.{◌≡◌, ℕ, ◌+◌, Bool, true, false, cond, List, [], ◌∷◌, refl, ap, ◌∙◌, ◌⊎◌, inl, inr}
use Rattle.std.specs.Prelude.{◌==◌, Result, Ok, Err}
use Rattle.bs_bits.specs.Lines.{onto_first, pieces_of}
use Rattle.bs_bits.specs.Reading.{◌>>=◌}
use Rattle.bs_report.specs.declared.place.NextLine.{NextLine}
use Rattle.bs_report.specs.declared.fault.ReportFault.{ReportFault}
use Rattle.bs_report.specs.declared.fault.ReportFault.TheVariants.{NoMemory}
use Rattle.bs_report.specs.declared.report.Report.{Report}
use Rattle.bs_report.specs.Reading.{Reached, followed, ended, report_from}

-- each text has a piece
pub some_piece : (bs : List ℕ) → (p : List ℕ) × (ps : List (List ℕ)) × (pieces_of bs ≡ p ∷ ps)
some_piece [] = ([], [], refl)
some_piece (b ∷ bs) = by (b == 10) refl (pieces_of bs) refl
  where
    by : (z : Bool) → b == 10 ≡ z → (o : List (List ℕ)) → pieces_of bs ≡ o →
        (p : List ℕ) × (ps : List (List ℕ)) × (cond z ([] ∷ pieces_of bs) (onto_first b (pieces_of bs)) ≡ p ∷ ps)
    by true e o f = ([], pieces_of bs, refl)
    by false e [] f = (b ∷ [], [], ap (onto_first b) f)
    by false e (p ∷ ps) f = (b ∷ p, ps, ap (onto_first b) f)

-- one whole line
pub line_from : (n : ℕ) (place : NextLine) (r : Report) (line rest : List ℕ) →
    report_from n place r (line ∷ pieces_of rest) ≡ ◌>>=◌ (followed n place r line) (λ (y : Reached). report_from (n + 1) y.0 y.1 (pieces_of rest))
line_from n place r line rest = by (pieces_of rest) (some_piece rest)
  where
    by : (pieces : List (List ℕ)) → ((p : List ℕ) × (ps : List (List ℕ)) × (pieces ≡ p ∷ ps)) →
        report_from n place r (line ∷ pieces) ≡ ◌>>=◌ (followed n place r line) (λ (y : Reached). report_from (n + 1) y.0 y.1 pieces)
    by [] s = cc
    by (p ∷ ps) s = refl

pub line_read : (all : Result Report ReportFault) (n : ℕ) (place next : NextLine) (r after : Report) (bytes line rest : List ℕ) →
    all ≡ report_from n place r (pieces_of bytes) → pieces_of bytes ≡ line ∷ pieces_of rest → followed n place r line ≡ Ok (next, after) →
    all ≡ report_from (n + 1) next after (pieces_of rest)
line_read all n place next r after bytes line rest e f g =
    e ∙ (ap (report_from n place r) f
    ∙ (line_from n place r line rest
    ∙ ap (λ (x : Result Reached ReportFault). ◌>>=◌ x (λ (y : Reached). report_from (n + 1) y.0 y.1 (pieces_of rest))) g))

pub line_refused : (all : Result Report ReportFault) (n : ℕ) (place : NextLine) (r : Report) (bytes line rest : List ℕ) (fault : ReportFault) →
    all ≡ report_from n place r (pieces_of bytes) → pieces_of bytes ≡ line ∷ pieces_of rest → followed n place r line ≡ Err fault → all ≡ Err fault
line_refused all n place r bytes line rest fault e f g =
    e ∙ (ap (report_from n place r) f
    ∙ (line_from n place r line rest
    ∙ ap (λ (x : Result Reached ReportFault). ◌>>=◌ x (λ (y : Reached). report_from (n + 1) y.0 y.1 (pieces_of rest))) g))

pub lines_end : (all : Result Report ReportFault) (n : ℕ) (place : NextLine) (r : Report) (bytes : List ℕ) →
    all ≡ report_from n place r (pieces_of bytes) → pieces_of bytes ≡ bytes ∷ [] → all ≡ ended place r bytes
lines_end all n place r bytes e f = e ∙ ap (report_from n place r) f

pub line_faulty : (all : Result Report ReportFault) (n : ℕ) (place : NextLine) (r : Report) (bytes line rest : List ℕ) (fault : ReportFault) →
    all ≡ report_from n place r (pieces_of bytes) → pieces_of bytes ≡ line ∷ pieces_of rest → (fault ≡ NoMemory) ⊎ (followed n place r line ≡ Err fault) →
    (fault ≡ NoMemory) ⊎ (all ≡ Err fault)
line_faulty all n place r bytes line rest fault e f (inl none) = inl none
line_faulty all n place r bytes line rest fault e f (inr g) = inr (line_refused all n place r bytes line rest fault e f g)
