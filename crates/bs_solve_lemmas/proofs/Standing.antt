-- What no delete line takes away: the clauses that the log is about, and the units of retired activation literals.
use Rattle.std.proofs.Common.{◌≡◌, ℕ, zero, suc, ◌+◌, ◌<◌, ◌≤◌, arith, Bool, true, false, not, ◌||◌, List, [], ◌∷◌, ◌++◌, map, refl, sym, ap, subst, ◌∙◌}
use Rattle.std.proofs.Common.{inl, inr, ◌⊎◌, Option, Some, None, eqb}
use Rattle.std.specs.Prelude.{All, Contains, is_some, option_map, IsTrue}
use Rattle.std.specs.List.{list_any, list_all, cons_option}
use Rattle.std.proofs.lemmas.Bool.{cases_Bool, cases_lt, eqb-true, and_parts, false≢true, false_from_ne_true}
use Rattle.std.proofs.lemmas.List.Elements.{Contains-append_cases, Contains-append_left, Contains-append_right, All-contains, All-nil, All-cons, All-tail}
use Rattle.bs_clause.specs.Literal.{Clause, negation}
use Rattle.bs_log.specs.declared.line.Line.TheVariants.{Solve, Lemma, Block, Finish, Retire, Delete}
use Rattle.bs_log.specs.declared.origin.Origin.TheVariants.{Axiom, Learnt, Blocked, Retired}
use Rattle.bs_log.specs.History.{Problem, History, Entry, axioms_from, added, is_deleted, live, last_id, state_of, phase_of, step_of, activation_of}
use Rattle.bs_log.specs.Refusal.{NoneRefused, entry_of, clauses_of, passes, is_lemma_or_block, is_between_steps}
use Rattle.bs_log.specs.Propagation.{hints_are_unit, last_is_false}
use Rattle.bs_log.specs.Lean.{IsResolventOf}
use Rattle.bs_log.proofs.Tests.{right_from_none}
use Rattle.bs_log.proofs.Histories.{deleted_ids, next_given}
use Rattle.bs_solve_lemmas.proofs.Deletions.{same_entry, named}
use Rattle.bs_solve_lemmas.specs.Walk.{IsLoggedLearnt}
use Rattle.bs_solve_lemmas.proofs.Clauses.{nothing_in, contains_first, cons_contains, contains_cases, filter_cases, filter_from, map_contains}
use Rattle.bs_solve_lemmas.proofs.Entries.{found_stands, found_id, some_entry, order_of, added_given, passing_entry, live_in_order}

-- the clause of an entry that is no lemma and no block has not been taken away by these ids
not_named : (p : Problem) (h : History) (e : Entry) (ids : List ℕ) → NoneRefused p h → Contains (added p h) e → is_lemma_or_block e ≡ false →
    list_all (λ d. passes is_lemma_or_block (entry_of (live p h) d)) ids ≡ true → list_any (λ d. eqb e.id d) ids ≡ false
not_named p h e [] right there other stand = refl
not_named p h e (d ∷ ids) right there other stand =
    let parts = and_parts (passes is_lemma_or_block (entry_of (live p h) d)) (list_all (λ x. passes is_lemma_or_block (entry_of (live p h) x)) ids) stand in
    ap (λ b. b || list_any (λ x. eqb e.id x) ids) (apart parts.0) ∙ not_named p h e ids right there other parts.1
  where
    apart : passes is_lemma_or_block (entry_of (live p h) d) ≡ true → eqb e.id d ≡ false
    apart named = false_from_ne_true (eqb e.id d) (λ same.
        let (x, found) = passing_entry is_lemma_or_block (entry_of (live p h) d) named in
        let in_added = (filter_cases (λ (y : Entry). not (is_deleted h y.id)) (added p h) x (found_stands (live p h) d x found)).0 in
        let one : x ≡ e = same_entry (added p h) x e (order_of (added p h) (added_given p h right).chain) in_added there
        (found_id (live p h) d x found ∙ sym (eqb-true e.id d same)) in
        false≢true (sym other ∙ ap is_lemma_or_block (sym one) ∙ sym (ap (passes is_lemma_or_block) found) ∙ named))

kept_entry : (p : Problem) (h : History) (e : Entry) → NoneRefused p h → Contains (added p h) e → is_lemma_or_block e ≡ false → is_deleted h e.id ≡ false
kept_entry p [] e right there other = refl
kept_entry p (Solve ∷ h) e right there other = kept_entry p h e right.1 there other
kept_entry p (Finish id ∷ h) e right there other = kept_entry p h e right.1 there other
kept_entry p (Delete ids ∷ h) e right there other =
    ap (λ b. b || is_deleted h e.id) (not_named p h e ids right.1 there other (right_from_none p (state_of p h) (Delete ids) right.0).names) ∙
    kept_entry p h e right.1 there other
kept_entry p (Lemma id lits hints ∷ h) e right there other = elim (Contains-append_cases (added p h) _ e there) [
  | inl before ↦ kept_entry p h e right.1 before other
  | inr last ↦ elim (contains_cases _ [] e last) [
    | inl same ↦ absurd (false≢true (sym other ∙ ap is_lemma_or_block (sym same)))
    | inr none ↦ absurd (nothing_in e none)
  ]
]
kept_entry p (Block id lits ∷ h) e right there other = elim (Contains-append_cases (added p h) _ e there) [
  | inl before ↦ kept_entry p h e right.1 before other
  | inr last ↦ elim (contains_cases _ [] e last) [
    | inl same ↦ absurd (false≢true (sym other ∙ ap is_lemma_or_block (sym same)))
    | inr none ↦ absurd (nothing_in e none)
  ]
]
kept_entry p (Retire id ∷ h) e right there other = elim (Contains-append_cases (added p h) _ e there) [
  | inl before ↦ kept_entry p h e right.1 before other
  | inr last ↦ elim (contains_cases _ [] e last) [
    | inl same ↦ ap (is_deleted h) (sym (ap (λ (x : Entry). x.id) same)) ∙ false_from_ne_true (is_deleted h id) (λ gone.
        let given = deleted_ids p h id right.1 gone in
        let next = next_given p h (not (is_between_steps (phase_of h))) id (right_from_none p (state_of p h) (Retire id) right.0).order in
        absurd (omega (arith, given, next)))
    | inr none ↦ absurd (nothing_in e none)
  ]
]

-- such an entry stands
stands_still : (p : Problem) (h : History) (e : Entry) → NoneRefused p h → Contains (added p h) e → is_lemma_or_block e ≡ false →
    Contains (map (λ (x : Entry). x.literals) (live p h)) e.literals
stands_still p h e right there other =
    map_contains (λ (x : Entry). x.literals) (live p h) e
    (filter_from (λ (x : Entry). not (is_deleted h x.id)) (added p h) e there (ap not (kept_entry p h e right there other)))

-- ---- the clauses that the log is about

axiom_of : (n : ℕ) (cs : List Clause) (c : Clause) → Contains cs c →
    (e : Entry) × Contains (axioms_from n cs) e × (is_lemma_or_block e ≡ false) × (e.literals ≡ c)
axiom_of n [] c there = absurd (nothing_in c there)
axiom_of n (x ∷ cs) c there = elim (contains_cases x cs c there) [
  | inl same ↦ (record { id = n; origin = Axiom; literals = x }, contains_first _ (axioms_from (n + 1) cs), refl, same)
  | inr later ↦ let r = axiom_of (n + 1) cs c later in (r.0, cons_contains _ (axioms_from (n + 1) cs) r.0 r.1, r.2, r.3)
]

axiom_added : (p : Problem) (h : History) (e : Entry) → Contains (axioms_from 1 p.clauses) e → Contains (added p h) e
axiom_added p [] e there = there
axiom_added p (Solve ∷ h) e there = axiom_added p h e there
axiom_added p (Finish id ∷ h) e there = axiom_added p h e there
axiom_added p (Delete ids ∷ h) e there = axiom_added p h e there
axiom_added p (Lemma id lits hints ∷ h) e there = Contains-append_left (added p h) _ e (axiom_added p h e there)
axiom_added p (Block id lits ∷ h) e there = Contains-append_left (added p h) _ e (axiom_added p h e there)
axiom_added p (Retire id ∷ h) e there = Contains-append_left (added p h) _ e (axiom_added p h e there)

-- none of them is a lemma or a block
axiom_is_plain : (n : ℕ) (cs : List Clause) (e : Entry) → Contains (axioms_from n cs) e → is_lemma_or_block e ≡ false
axiom_is_plain n [] e there = absurd (nothing_in e there)
axiom_is_plain n (x ∷ cs) e there = elim (contains_cases _ (axioms_from (n + 1) cs) e there) [
  | inl same ↦ ap is_lemma_or_block (sym same)
  | inr later ↦ axiom_is_plain (n + 1) cs e later
]

-- an entry of theirs is found in each right log under its id
axiom_found : (p : Problem) (h : History) (id : ℕ) (e : Entry) → NoneRefused p h → entry_of (axioms_from 1 p.clauses) id ≡ Some e →
    entry_of (live p h) id ≡ Some e
axiom_found p h id e right found =
    let in_axioms = found_stands (axioms_from 1 p.clauses) id e found in
    let there = axiom_added p h e in_axioms in
    let stays = kept_entry p h e right there (axiom_is_plain 1 p.clauses e in_axioms) in
    subst (λ n. entry_of (live p h) n ≡ Some e) (found_id (axioms_from 1 p.clauses) id e found)
    (named (live p h) e (live_in_order p h right) (filter_from (λ (x : Entry). not (is_deleted h x.id)) (added p h) e there (ap not stays)))

axioms_found : (p : Problem) (h : History) (ids : List ℕ) → NoneRefused p h → All (λ id. is_some (entry_of (axioms_from 1 p.clauses) id) ≡ true) ids →
    All (λ id. is_some (entry_of (live p h) id) ≡ true) ids × (clauses_of (live p h) ids ≡ clauses_of (axioms_from 1 p.clauses) ids)
axioms_found p h [] right named_all = (All-nil (λ id. is_some (entry_of (live p h) id) ≡ true), refl)
axioms_found p h (id ∷ ids) right named_all =
    let (e, found) = some_entry (entry_of (axioms_from 1 p.clauses) id)
    (All-contains (λ n. is_some (entry_of (axioms_from 1 p.clauses) n) ≡ true) (id ∷ ids) id named_all (contains_first id ids)) in
    let here = axiom_found p h id e right found in
    let (rest, same) = axioms_found p h ids right (All-tail (λ n. is_some (entry_of (axioms_from 1 p.clauses) n) ≡ true) id ids named_all) in (
      All-cons (λ n. is_some (entry_of (live p h) n) ≡ true) id ids (ap is_some here) rest,
      ap (λ o. cons_option (option_map (λ (x : Entry). x.literals) o) (clauses_of (live p h) ids)) (here ∙ sym found) ∙
          ap (λ cs. cons_option (option_map (λ (x : Entry). x.literals) (entry_of (axioms_from 1 p.clauses) id)) cs) same,
    )

-- a lemma that follows from the clauses that a log is about is right in each right log
pub learnt_of_axioms : (p : Problem) (h : History) (lemma : Clause) (hints : List ℕ) → NoneRefused p h →
    IsLoggedLearnt (axioms_from 1 p.clauses) lemma hints → IsLoggedLearnt (live p h) lemma hints
learnt_of_axioms p h lemma hints right l =
    let (named_all, same) = axioms_found p h hints right l.named in
    record {
      named = named_all;
      distinct = l.distinct;
      unit = subst (λ cs. IsTrue (hints_are_unit lemma cs)) (sym same) l.unit;
      last = subst (λ cs. IsTrue (last_is_false lemma cs)) (sym same) l.last;
      resolvent = subst (IsResolventOf lemma) (sym same) l.resolvent;
    }

pub axioms_stand_still : (p : Problem) (h : History) (c : Clause) → NoneRefused p h → Contains p.clauses c →
    Contains (map (λ (e : Entry). e.literals) (live p h)) c
axioms_stand_still p h c right there =
    let (e, in_axioms, other, is) = axiom_of 1 p.clauses c there in
    subst (Contains (map (λ (x : Entry). x.literals) (live p h))) is (stands_still p h e right (axiom_added p h e in_axioms) other)

-- ---- the activation literals

unit_added : (p : Problem) (h : History) (n : ℕ) → 1 ≤ n → n < step_of h →
    (e : Entry) × Contains (added p h) e × (is_lemma_or_block e ≡ false) × (e.literals ≡ negation (activation_of p n) ∷ [])
unit_added p [] n low high = absurd (omega (arith, low, high))
unit_added p (Solve ∷ h) n low high = unit_added p h n low high
unit_added p (Finish id ∷ h) n low high = unit_added p h n low high
unit_added p (Delete ids ∷ h) n low high = unit_added p h n low high
unit_added p (Lemma id lits hints ∷ h) n low high =
    let r = unit_added p h n low high in (r.0, Contains-append_left (added p h) _ r.0 r.1, r.2, r.3)
unit_added p (Block id lits ∷ h) n low high =
    let r = unit_added p h n low high in (r.0, Contains-append_left (added p h) _ r.0 r.1, r.2, r.3)
unit_added p (Retire id ∷ h) n low high = elim (cases_lt n (step_of h)) [
  | inl before ↦ let r = unit_added p h n low before in (r.0, Contains-append_left (added p h) _ r.0 r.1, r.2, r.3)
  | inr here ↦
      let e : Entry = record { id = id; origin = Retired; literals = negation (activation_of p (step_of h)) ∷ [] } in
      let same : step_of h ≡ n = omega (arith, here, high) in
      (e, Contains-append_right (added p h) (e ∷ []) e (contains_first e []), refl, ap (λ k. negation (activation_of p k) ∷ []) same)
]

pub activations_stay_retired : (p : Problem) (h : History) (n : ℕ) → NoneRefused p h → 1 ≤ n → n < step_of h →
    Contains (map (λ (e : Entry). e.literals) (live p h)) (negation (activation_of p n) ∷ [])
activations_stay_retired p h n right low high =
    let (e, there, other, is) = unit_added p h n low high in
    subst (Contains (map (λ (x : Entry). x.literals) (live p h))) is (stands_still p h e right there other)
