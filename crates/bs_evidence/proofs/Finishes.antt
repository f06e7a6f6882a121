-- The line that finishes a step stands right before the line that ends it.
use Rattle.std.proofs.Common.{◌≡◌, ℕ, ◌+◌, ◌≤◌, arith, true, ◌||◌, ◌&&◌, cond, eqb, leb, [], ◌∷◌, length, refl, sym, ap, subst, ◌∙◌, Some, None}
use Rattle.std.proofs.lemmas.Bool.{eq-eqb, false≢true}
use Rattle.bs_log.specs.declared.line.Line.TheVariants.{Solve, Lemma, Block, Finish, Retire, Delete}
use Rattle.bs_log.specs.declared.phase.Phase.{Phase}
use Rattle.bs_log.specs.declared.phase.Phase.TheVariants.{AfterFinish}
use Rattle.bs_log.specs.History.{Problem, History, step_of, phase_of, state_of, last_id, live}
use Rattle.bs_log.specs.Refusal.{NoneRefused, is_after_block, is_between_steps, is_after_retire, is_ascending, in_solve, passes, is_lemma, entry_of, denies, assumptions_of}
use Rattle.bs_log.proofs.Tests.{right_from_none}
use Rattle.bs_log.proofs.Rooms.{low_finish}
use Rattle.bs_evidence.specs.WholeCnf.{finish_of}
use Rattle.bs_evidence.proofs.Giving.{no_finish_later}

-- the newest line names this lemma as the end of its step
record EndsBy (h : History) (id : ℕ) : Type 0 where
  earlier : History
  is : h ≡ Finish id ∷ earlier

-- nothing but a retire line may follow
phase_there : (h : History) (id : ℕ) → EndsBy h id → phase_of h ≡ AfterFinish
phase_there h id e = ap phase_of e.is

ends_by : (p : Problem) (h : History) (id : ℕ) → NoneRefused p h → finish_of h (step_of h) ≡ Some id → EndsBy h id
ends_by p [] id right e = absurd (cc)
ends_by p (Solve ∷ h) id right e =
    let phase = phase_there h id (ends_by p h id right.1 e) in
    let order = (right_from_none p (state_of p h) Solve right.0).order in
    absurd (false≢true (sym (ap (λ (x : Phase). is_after_block x || (is_between_steps x && leb (step_of h) (length p.steps))) phase) ∙ order))
ends_by p (Lemma new lits hints ∷ h) id right e =
    let phase = phase_there h id (ends_by p h id right.1 e) in
    let order = (right_from_none p (state_of p h) (Lemma new lits hints) right.0).order in
    absurd (false≢true (sym (ap (λ (x : Phase). in_solve x && eqb new (last_id p h + 1)) phase) ∙ order))
ends_by p (Block new lits ∷ h) id right e =
    let phase = phase_there h id (ends_by p h id right.1 e) in
    let order = (right_from_none p (state_of p h) (Block new lits) right.0).order in
    absurd (false≢true (sym (ap (λ (x : Phase). in_solve x && eqb new (last_id p h + 1)) phase) ∙ order))
ends_by p (Finish new ∷ h) id right e =
    let found : Some new ≡ Some id = ap (λ b. cond b (Some new) (finish_of h (step_of h))) (sym (eq-eqb (step_of h) (step_of h) refl)) ∙ e in
    let same : new ≡ id = cc in
    record { earlier = h; is = ap (λ (n : ℕ). Finish n ∷ h) same }
ends_by p (Retire new ∷ h) id right e =
    let none : None ≡ Some id = sym (no_finish_later h (step_of h + 1) (omega arith)) ∙ e in
    absurd (cc)
ends_by p (Delete ids ∷ h) id right e =
    let phase = phase_there h id (ends_by p h id right.1 e) in
    let order = (right_from_none p (state_of p h) (Delete ids) right.0).order in
    absurd (false≢true (sym (ap (λ (x : Phase). is_after_retire x && is_ascending ids) phase) ∙ order))

-- the lemma that finishes the step that is under way
pub record IsFinished (p : Problem) (h : History) (id : ℕ) : Type 0 where
  pub names : passes is_lemma (entry_of (live p h) id) ≡ true
  pub denied : passes (λ e. denies (assumptions_of p (step_of h)) e.literals) (entry_of (live p h) id) ≡ true
  pub low : id ≤ last_id p h

finished_by : (p : Problem) (h : History) (id : ℕ) → NoneRefused p (Finish id ∷ h) → IsFinished p (Finish id ∷ h) id
finished_by p h id right =
    let is_right = right_from_none p (state_of p h) (Finish id) right.0 in
    record { names = is_right.names; denied = is_right.finish; low = low_finish p h id right }

pub is_finished : (p : Problem) (h : History) (id : ℕ) → NoneRefused p h → finish_of h (step_of h) ≡ Some id → IsFinished p h id
is_finished p h id right e =
    let ends = ends_by p h id right e in
    subst (λ (h : History). IsFinished p h id) (sym ends.is) (finished_by p ends.earlier id (subst (NoneRefused p) ends.is right))
