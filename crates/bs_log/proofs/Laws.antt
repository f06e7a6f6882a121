-- An accepted log adds only clauses that follow.
use Rattle.std.proofs.Common.{◌≡◌, ◌≢◌, ℕ, ◌+◌, ◌≤◌, Bool, true, false, not, cond, List, [], ◌∷◌, ◌++◌, length, refl, sym, ap, subst, ◌∙◌, inl, inr}
use Rattle.std.proofs.Common.{reverse, Some, None, arith, eqb}
use Rattle.std.specs.Prelude.{option_map, nat_le}
use Rattle.std.specs.List.{list_any, list_all, cons_option, AllByRecursion}
use Rattle.std.proofs.lemmas.Bool.{and_parts, eq-eqb, false≢true, cases_eq, or_left}
use Rattle.std.proofs.lemmas.List.Elements.{recursion_from_All, All-from_recursion}
use Rattle.std.proofs.lemmas.List.{reverse-append, append_assoc}
use Rattle.bs_clause.specs.Literal.{Clause, negation, same_literal, literal_value, Satisfies}
use Rattle.bs_clause.proofs.Literals.{same_literal-true, literal_value-negation}
use Rattle.bs_log.specs.declared.line.Line.{Line}
use Rattle.bs_log.specs.declared.line.Line.TheVariants.{Solve, Lemma, Block, Finish, Retire, Delete}
use Rattle.bs_log.specs.History.{Problem, History, Entry, axioms_from, step_of, activation_of, added, live, is_deleted, state_of}
use Rattle.bs_log.specs.Refusal.{NoneRefused, IsAccepted, history_of, entry_of, clauses_of, passes, denies, assumptions_of, is_block_of}
use Rattle.bs_log.specs.Refutation.{Suits, blocks_of, AddedClausesHold, FinishedStepsAreRefuted}
use Rattle.bs_clause.proofs.Values.{AllTrue, denied}
use Rattle.bs_log.proofs.Elements.{AllByRecursion-find, AllByRecursion-filter}
use Rattle.bs_log.proofs.Propagates.{Satisfies-lemma}
use Rattle.bs_log.proofs.Tests.{right_from_none, IsRight}

-- the assignment meets the clause of the entry
abbrev Holds : (ℕ → Bool) → Entry → Type 0
Holds v e = Satisfies v e.literals

axioms_hold : (v : ℕ → Bool) (n : ℕ) (cs : List Clause) → AllByRecursion (Satisfies v) cs → AllByRecursion (Holds v) (axioms_from n cs)
axioms_hold v n [] all = tt
axioms_hold v n (c ∷ cs) all = (all.0, axioms_hold v (n + 1) cs all.1)

hints_hold : (v : ℕ → Bool) (entries : List Entry) (ids : List ℕ) → AllByRecursion (Holds v) entries → AllByRecursion (Satisfies v) (clauses_of entries ids)
hints_hold v entries [] all = tt
hints_hold v entries (id ∷ ids) all =
    elim (entry_of entries id) as (λ o. entry_of entries id ≡ o →
    AllByRecursion (Satisfies v) (cons_option (option_map (λ (e : Entry). e.literals) o) (clauses_of entries ids))) [
      | None ↦ λ _. hints_hold v entries ids all
      | Some e ↦ λ found. (AllByRecursion-find (Holds v) (λ x. eqb x.id id) entries e all found, hints_hold v entries ids all)
    ] refl

pub step_of-positive : (h : History) → 1 ≤ step_of h
step_of-positive [] = omega arith
step_of-positive (Retire id ∷ h) = omega (arith, step_of-positive h)
step_of-positive (Solve ∷ h) = step_of-positive h
step_of-positive (Lemma id lits hints ∷ h) = step_of-positive h
step_of-positive (Block id lits ∷ h) = step_of-positive h
step_of-positive (Finish id ∷ h) = step_of-positive h
step_of-positive (Delete ids ∷ h) = step_of-positive h

-- what an assignment keeps of the activation literals
push_holds : {X : Type 0} (P : X → Type 0) (xs : List X) (x : X) → AllByRecursion P xs → P x → AllByRecursion P (xs ++ x ∷ [])
push_holds P [] x all h = (h, tt)
push_holds P (y ∷ ys) x all h = (all.0, push_holds P ys x all.1 h)

record Activations (p : Problem) (step : ℕ) (v : ℕ → Bool) : Type 0 where
  in_range : step ≤ length p.steps
  others : (other : ℕ) → 1 ≤ other → other ≤ length p.steps → other ≢ step → v (p.vars + other) ≡ false

-- the negation of an earlier activation literal is true
retired_is_true : (p : Problem) (step : ℕ) (v : ℕ → Bool) (h : History) → Activations p step v → step_of h ≤ step → step_of h ≢ step →
    literal_value v (negation (activation_of p (step_of h))) ≡ true
retired_is_true p step v h g before other =
    let lost : v (p.vars + step_of h) ≡ false = g.others (step_of h) (step_of-positive h) (omega (arith, g.in_range)) other in
    literal_value-negation v (activation_of p (step_of h)) ∙
    elim (v (p.vars + step_of h)) as
    (λ b. b ≡ false → not (literal_value (λ _. b) (activation_of p (step_of h))) ≡ true) [ true ↦ λ e. sym e | false ↦ λ _. refl ] lost

block_holds : (p : Problem) (step : ℕ) (v : ℕ → Bool) (h : History) (lits : Clause) → Activations p step v → step_of h ≤ step → step_of h ≢ step →
    is_block_of p (step_of h) lits ≡ true → Satisfies v lits
block_holds p step v h [] g before other fits = absurd (false≢true fits)
block_holds p step v h (first ∷ rest) g before other fits =
    let parts = and_parts (same_literal first (negation (activation_of p (step_of h)))) (list_all (λ l. nat_le l.variable p.vars) rest) fits in
    or_left (literal_value v first) (list_any (literal_value v) rest)
    (ap (literal_value v) (same_literal-true first (negation (activation_of p (step_of h))) parts.0) ∙ retired_is_true p step v h g before other)

added_holds : (p : Problem) (step : ℕ) (v : ℕ → Bool) (h : History) → NoneRefused p h → step_of h ≤ step → Activations p step v →
    AllByRecursion (Satisfies v) p.clauses → AllByRecursion (Satisfies v) (blocks_of h step) → AllByRecursion (Holds v) (added p h)
added_holds p step v [] right before g axioms blocks = axioms_hold v 1 p.clauses axioms
added_holds p step v (Solve ∷ h) right before g axioms blocks = added_holds p step v h right.1 before g axioms blocks
added_holds p step v (Finish id ∷ h) right before g axioms blocks = added_holds p step v h right.1 before g axioms blocks
added_holds p step v (Delete ids ∷ h) right before g axioms blocks = added_holds p step v h right.1 before g axioms blocks
added_holds p step v (Lemma id lits hints ∷ h) right before g axioms blocks =
    let earlier : AllByRecursion (Holds v) (added p h) = added_holds p step v h right.1 before g axioms blocks in
    let is_right : IsRight p (state_of p h) (Lemma id lits hints) = right_from_none p (state_of p h) (Lemma id lits hints) right.0 in
    push_holds (Holds v) (added p h) _ earlier
    (Satisfies-lemma v lits (clauses_of (live p h) hints) is_right.last
    (hints_hold v (live p h) hints (AllByRecursion-filter (Holds v) (λ x. not (is_deleted h x.id)) (added p h) earlier)))
added_holds p step v (Block id lits ∷ h) right before g axioms blocks =
    let is_right : IsRight p (state_of p h) (Block id lits) = right_from_none p (state_of p h) (Block id lits) right.0 in
    elim (cases_eq (step_of h) step) [
      | inl here ↦
          let both : AllByRecursion (Satisfies v) (lits ∷ blocks_of h step) =
          subst (λ (t : Bool). AllByRecursion (Satisfies v) (cond t (lits ∷ blocks_of h step) (blocks_of h step))) (eq-eqb (step_of h) step here) blocks in
          push_holds (Holds v) (added p h) _ (added_holds p step v h right.1 before g axioms both.1) both.0
      | inr other ↦
          let rest : AllByRecursion (Satisfies v) (blocks_of h step) =
          elim (eqb (step_of h) step) as
          (λ t. AllByRecursion (Satisfies v) (cond t (lits ∷ blocks_of h step) (blocks_of h step)) → AllByRecursion (Satisfies v) (blocks_of h step)) [
            | true ↦ λ x. x.1
            | false ↦ λ x. x
          ] blocks in
          push_holds (Holds v) (added p h) _ (added_holds p step v h right.1 before g axioms rest) (block_holds p step v h lits g before other is_right.block)
    ]
added_holds p step v (Retire id ∷ h) right before g axioms blocks =
    let earlier : step_of h ≤ step = omega arith in
    let other : step_of h ≢ step = λ e. omega arith in
    push_holds (Holds v) (added p h) _ (added_holds p step v h right.1 earlier g axioms blocks)
    (or_left (literal_value v (negation (activation_of p (step_of h)))) false (retired_is_true p step v h g earlier other))

pub NoneRefused-tail : (p : Problem) (xs ys : History) → NoneRefused p (xs ++ ys) → NoneRefused p ys
NoneRefused-tail p [] ys h = h
NoneRefused-tail p (x ∷ xs) ys h = NoneRefused-tail p xs ys h.1

-- of an accepted log, no line of a front part is refused
pub front_is_right : (p : Problem) (log before after : List Line) → IsAccepted p log → log ≡ before ++ after → NoneRefused p (history_of before)
front_is_right p log before after ok e =
    NoneRefused-tail p (reverse after) (reverse before)
    (subst (NoneRefused p) (ap reverse e ∙ reverse-append before after) ok.lines)

activations_of : (p : Problem) (h : History) (step : ℕ) (v : ℕ → Bool) → Suits p h step v → Activations p step v
activations_of p h step v s = record { in_range = s.in_range; others = s.other_activations }

pub added_clauses_hold : AddedClausesHold
added_clauses_hold p log before after step v ok e early s =
    All-from_recursion (Holds v) (added p (history_of before))
    (added_holds p step v (history_of before) (front_is_right p log before after ok e) early (activations_of p (history_of before) step v s)
    (recursion_from_All (Satisfies v) p.clauses s.clauses) (recursion_from_All (Satisfies v) (blocks_of (history_of before) step) s.blocks))

-- no assignment makes all assumptions true where it meets a named clause that denies them
named_denied : (v : ℕ → Bool) (assumptions : Clause) (entries : List Entry) (id : ℕ) →
    passes (λ e. denies assumptions e.literals) (entry_of entries id) ≡ true → AllByRecursion (Holds v) entries → AllTrue v assumptions → ⊥
named_denied v assumptions entries id deny holds true_ones =
    elim (entry_of entries id) as (λ o. entry_of entries id ≡ o → passes (λ e. denies assumptions e.literals) o ≡ true → ⊥) [
      | None ↦ λ _ no. false≢true no
      | Some e ↦ λ found denies_it. denied v assumptions e.literals true_ones denies_it (AllByRecursion-find (Holds v) (λ x. eqb x.id id) entries e holds found)
    ] refl deny

pub finished_steps_are_refuted : FinishedStepsAreRefuted
finished_steps_are_refuted p log before after id v ok e s true_ones =
    let parts : log ≡ (before ++ Finish id ∷ []) ++ after = e ∙ sym (append_assoc before (Finish id ∷ []) after) in
    let right : NoneRefused p (Finish id ∷ history_of before) =
    subst (NoneRefused p) (reverse-append before (Finish id ∷ [])) (front_is_right p log (before ++ Finish id ∷ []) after ok parts) in
    let is_right : IsRight p (state_of p (history_of before)) (Finish id) = right_from_none p (state_of p (history_of before)) (Finish id) right.0 in
    let h : History = history_of before in
    let all_hold : AllByRecursion (Holds v) (live p h) =
    AllByRecursion-filter (Holds v) (λ x. not (is_deleted h x.id)) (added p h)
    (added_holds p (step_of h) v h right.1 (omega arith) (activations_of p h (step_of h) v s)
    (recursion_from_All (Satisfies v) p.clauses s.clauses) (recursion_from_All (Satisfies v) (blocks_of h (step_of h)) s.blocks)) in
    named_denied v (assumptions_of p (step_of h)) (live p h) id is_right.finish all_hold
    (recursion_from_All (λ l. literal_value v l ≡ true) (assumptions_of p (step_of h)) true_ones)
