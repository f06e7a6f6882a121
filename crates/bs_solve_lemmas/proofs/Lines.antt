-- A recording with a line more, and a proof log with one more step.
use Rattle.std.proofs.Common.{◌≡◌, ℕ, ◌+◌, ◌≤◌, true, List, [], ◌∷◌, ◌++◌, map, reverse, length, refl, sym, ap, subst, ◌∙◌, inl, inr, eqb}
use Rattle.std.specs.Prelude.{All}
use Rattle.std.specs.List.{filter}
use Rattle.std.proofs.lemmas.Bool.{and_parts}
use Rattle.std.proofs.lemmas.List.{reverse-append}
use Rattle.bs_clause.specs.Literal.{Clause}
use Rattle.bs_log.specs.declared.line.Line.{Line}
use Rattle.bs_log.specs.declared.line.Line.TheVariants.{Solve, Lemma, Block, Finish, Retire, Delete}
use Rattle.bs_log.specs.History.{Problem, History, Entry, state_of, live, last_id, phase_of, step_of, axioms_from}
use Rattle.bs_log.specs.Refusal.{NoneRefused, in_solve, is_lemma, clauses_of, denies, assumptions_of}
use Rattle.bs_log.specs.Kept.{kept_lemmas}
use Rattle.bs_log.specs.Lean.{IsNew, IsResolventOf, IsContained, LemmasAreLean, LeavesKept, StepsLeaveKept, is_block}
use Rattle.bs_log.proofs.Tests.{right_from_none}
use Rattle.bs_log.proofs.Histories.{in_range, solve_is_inside, same_live, same_last, same_assumptions, NoneRefused-with_step, with_step}
use Rattle.bs_log.proofs.Laws.{step_of-positive}
use Rattle.bs_solve_lemmas.specs.ProofLog.{ProofLog, standing, IsRecorded, with_line, with_member}

-- ---- the fields of a recording

-- what is seen of them
abbrev pub seen_proof : ℕ → List Clause → List Clause → List Line → ProofLog
seen_proof vars axioms steps log = record { problem = record { vars = vars; clauses = axioms; steps = steps }; history = reverse log }

pub seen_line : (vars : ℕ) (axioms steps : List Clause) (log longer : List Line) (line : Line) (now : ProofLog) → seen_proof vars axioms steps log ≡ now →
    longer ≡ log ++ line ∷ [] → seen_proof vars axioms steps longer ≡ with_line now line
seen_line vars axioms steps log longer line now is is_longer =
    let newest : reverse longer ≡ line ∷ reverse log = ap reverse is_longer ∙ reverse-append log (line ∷ []) in
    (λ i. record { problem = record { vars = vars; clauses = axioms; steps = steps }; history = newest i }) ∙ ap (λ b. with_line b line) is

-- it is right where the proof log with one more line is
pub recorded_line : (last : ℕ) (ids : List ℕ) (vars : ℕ) (axioms steps : List Clause) (log longer : List Line) (line : Line) (now : ProofLog) →
    seen_proof vars axioms steps log ≡ now → longer ≡ log ++ line ∷ [] → IsRecorded last ids (with_line now line) →
    IsRecorded last ids (seen_proof vars axioms steps longer)
recorded_line last ids vars axioms steps log longer line now is is_longer =
    subst (IsRecorded last ids) (sym (seen_line vars axioms steps log longer line now is is_longer))

-- two lines more
pub seen_two : (vars : ℕ) (axioms steps : List Clause) (log longer : List Line) (first second : Line) (now : ProofLog) →
    seen_proof vars axioms steps log ≡ now → longer ≡ log ++ first ∷ second ∷ [] →
    seen_proof vars axioms steps longer ≡ with_line (with_line now first) second
seen_two vars axioms steps log longer first second now is is_longer =
    let newest : reverse longer ≡ second ∷ first ∷ reverse log = ap reverse is_longer ∙ reverse-append log (first ∷ second ∷ []) in
    (λ i. record { problem = record { vars = vars; clauses = axioms; steps = steps }; history = newest i }) ∙
    ap (λ b. with_line (with_line b first) second) is

pub seen_step : (vars : ℕ) (axioms steps more : List Clause) (log : List Line) (member : Clause) (now : ProofLog) → seen_proof vars axioms steps log ≡ now →
    more ≡ steps ++ member ∷ [] → seen_proof vars axioms more log ≡ with_member now member
seen_step vars axioms steps more log member now is is_more =
    (λ i. record { problem = record { vars = vars; clauses = axioms; steps = is_more i }; history = reverse log }) ∙ ap (λ b. with_member b member) is

-- ---- the empty log

literals_axioms : (n : ℕ) (cs : List Clause) → map (λ (e : Entry). e.literals) (filter (λ (e : Entry). true) (axioms_from n cs)) ≡ cs
literals_axioms n [] = refl
literals_axioms n (c ∷ cs) = ap (λ r. c ∷ r) (literals_axioms (n + 1) cs)

pub first_stands : (p : Problem) → standing (record { problem = p; history = [] }) ≡ p.clauses
first_stands p = literals_axioms 1 p.clauses

no_lemma : (n : ℕ) (cs : List Clause) → map (λ (e : Entry). e.id) (filter is_lemma (filter (λ (e : Entry). true) (axioms_from n cs))) ≡ []
no_lemma n [] = refl
no_lemma n (c ∷ cs) = no_lemma (n + 1) cs

-- the first lines are none
pub recorded_first : (vars last : ℕ) (axioms steps : List Clause) (ids : List ℕ) (log : List Line) → last ≡ length axioms → log ≡ [] → ids ≡ [] →
    IsRecorded last ids (seen_proof vars axioms steps log)
recorded_first vars last axioms steps ids log is none no_ids =
    subst (λ ls. IsRecorded last ids (seen_proof vars axioms steps ls)) (sym none)
    (record { kept = record { right = tt; lean = tt; texts = tt }; last_is = is; lemmas = no_ids ∙ sym (no_lemma 1 axioms) })

-- ---- one more step

lean_with_step : (p : Problem) (member : Clause) (h : History) → NoneRefused p h → LemmasAreLean p h → LemmasAreLean (with_step p member) h
lean_with_step p member [] right lean = tt
lean_with_step p member (Solve ∷ h) right lean = lean_with_step p member h right.1 lean
lean_with_step p member (Finish id ∷ h) right lean = lean_with_step p member h right.1 lean
lean_with_step p member (Delete ids ∷ h) right lean = lean_with_step p member h right.1 lean
lean_with_step p member (Block id lits ∷ h) right lean = lean_with_step p member h right.1 lean
lean_with_step p member (Retire id ∷ h) right lean = lean_with_step p member h right.1 lean
lean_with_step p member (Lemma id lits hints ∷ h) right lean =
    let order = (right_from_none p (state_of p h) (Lemma id lits hints) right.0).order in
    let phase : in_solve (phase_of h) ≡ true = (and_parts (in_solve (phase_of h)) (eqb id (last_id p h + 1)) order).0 in
    let here : step_of h ≤ length p.steps = (in_range p h right.1).inside (solve_is_inside (phase_of h) phase) in
    let same : assumptions_of (with_step p member) (step_of h) ≡ assumptions_of p (step_of h) =
    same_assumptions p member (step_of h) (step_of-positive h) here in (
      elim (lean.0) as (λ _. IsNew (with_step p member) h lits) [
        | inl ends ↦ inl (ap (λ a. denies a lits) same ∙ ends)
        | inr new ↦ inr (subst (All (λ (e : Entry). ¬ IsContained e.literals lits)) (sym (same_live p member h)) new)
      ],
      subst (λ es. IsResolventOf lits (clauses_of es hints)) (sym (same_live p member h)) lean.1,
      lean_with_step p member h right.1 lean.2,
    )

pub live_with_member : (b : ProofLog) (member : Clause) → live (with_member b member).problem (with_member b member).history ≡ live b.problem b.history
live_with_member b member = same_live b.problem member b.history

pub standing_with_member : (b : ProofLog) (member : Clause) → standing (with_member b member) ≡ standing b
standing_with_member b member = ap (map (λ (e : Entry). e.literals)) (live_with_member b member)

pub recorded_member : (last : ℕ) (ids : List ℕ) (b : ProofLog) (member : Clause) → IsRecorded last ids b → IsRecorded last ids (with_member b member)
recorded_member last ids b member r = record {
  kept = record {
    right = NoneRefused-with_step b.problem member b.history r.kept.right;
    lean = lean_with_step b.problem member b.history r.kept.right r.kept.lean;
    texts = r.kept.texts;
  };
  last_is = r.last_is ∙ sym (same_last b.problem member b.history);
  lemmas = r.lemmas ∙ sym (ap (λ es. map (λ (e : Entry). e.id) (filter is_lemma es)) (live_with_member b member));
}
