-- Lemmas stay new and resolvents.
use Rattle.std.proofs.Common.{ℕ, ◌+◌, arith, List, [], ◌∷◌, ◌++◌, map, sym, ap, subst, ◌∙◌, ◌⊎◌, inl, inr}
use Rattle.std.specs.Prelude.{All, Any, Contains}
use Rattle.std.proofs.lemmas.List.Elements.{All-contains, All-from_recursion, Contains-append_cases, Contains-append_left, Contains-append_right}
use Rattle.bs_clause.specs.Literal.{Literal, Clause}
use Rattle.bs_log.specs.declared.line.Line.TheVariants.{Solve, Lemma, Block, Finish, Retire, Delete}
use Rattle.bs_log.specs.History.{Problem, History, Entry, axioms_from, live, step_of}
use Rattle.bs_log.specs.Refusal.{NoneRefused, clauses_of, denies, assumptions_of}
use Rattle.bs_log.specs.Lean.{IsContained, IsNew, IsResolventOf, LemmasAreLean}
use Rattle.bs_solve_lemmas.proofs.Clauses.{nothing_in, contains_first, cons_contains, contains_cases, all_from, filter_cases, map_cases}
use Rattle.bs_solve_lemmas.proofs.Standing.{axioms_stand_still}
use Rattle.bs_reach.specs.declared.offsets.Shift.{Shift}
use Rattle.bs_reach.specs.Renamed.{new_literal, new_clause}
use Rattle.bs_reach.specs.Widened.{IsNewVariable, IsWidened}
use Rattle.bs_reach.proofs.ShiftLemmas.{variable_place, VariablePlace}
use Rattle.bs_reach.proofs.PropagationLemmas.{same_denies}
use Rattle.bs_reach.proofs.ResolventLemmas.{one_of, contained_back, still_resolvent}
use Rattle.bs_reach.proofs.EntryLemmas.{new_entry, new_lines, same_step, stands, axioms_left, own_left, live_is, new_own_left}
use Rattle.bs_reach.proofs.AxiomLemmas.{Stays, shift_is, clauses_stay}
use Rattle.bs_reach.proofs.StateLemmas.{new_hints}
use Rattle.bs_reach.proofs.RefusalLemmas.{new_assumptions}

clause_of : (n : ℕ) (cs : List Clause) (e : Entry) → Contains (axioms_from n cs) e → Contains cs e.literals
clause_of n [] e there = absurd (nothing_in e there)
clause_of n (c ∷ cs) e there = elim (contains_cases _ (axioms_from (n + 1) cs) e there) [
  | inl same ↦ subst (λ (x : Entry). Contains (c ∷ cs) x.literals) same (contains_first c cs)
  | inr later ↦ cons_contains c cs e.literals (clause_of (n + 1) cs e later)
]

module _ (s : Shift) (p q : Problem) (w : IsWidened s p q) (h : History) (lits : Clause) (right : NoneRefused p h)
    (new : All (λ e. ¬ IsContained e.literals lits) (live p h)) where
  abbrev Apart : Clause → Type 0
  Apart c = ¬ IsContained c (new_clause s lits)

  -- a clause of the first list stands there too
  apart_old : (c : Clause) → Contains p.clauses c → Apart c
  apart_old c there contained =
      let stays : Stays s c = All-contains (Stays s) p.clauses c (All-from_recursion (Stays s) p.clauses (clauses_stay s p q w)) there in
      let back : IsContained c lits =
      contained_back s c lits (subst (λ (d : Clause). IsContained d (new_clause s lits)) (sym stays) contained) in
      let e = map_cases (λ (x : Entry). x.literals) (live p h) c (axioms_stand_still p h c right there) in
      All-contains (λ x. ¬ IsContained x.literals lits) (live p h) e.0 new e.1 (subst (λ (d : Clause). IsContained d lits) (sym e.2) back)

  not_new : (l : Literal) → IsNewVariable p q l → (v : ℕ) → VariablePlace s v l.variable → ⊥
  not_new l is v (inl a) = let stay = w.vars_stay in omega (arith, is.0, a.0, a.1, stay)
  not_new l is v (inr a) = let stay = w.vars_stay in let go = w.vars_go in omega (arith, is.1, a.0, a.1, stay, go)

  -- no variable of the lemma goes to a new one
  apart_new : (c : Clause) → Any (IsNewVariable p q) c → Apart c
  apart_new c some contained =
      let l = one_of (IsNewVariable p q) c some in
      let m = map_cases (new_literal s) lits l.one (All-contains (Contains (new_clause s lits)) c l.one contained l.there) in
      not_new l.one l.is (m.0).variable
      (subst (λ (n : ℕ). VariablePlace s (m.0).variable n) (ap (λ (x : Literal). x.variable) m.2) (variable_place s (m.0).variable))

  apart_more : (c : Clause) → Contains (w.more ++ w.later) c → Apart c
  apart_more c there = elim (All-contains (λ d. Contains p.clauses d ⊎ Any (IsNewVariable p q) d) (w.more ++ w.later) c w.apart there) [
    | inl old ↦ apart_old c old
    | inr some ↦ apart_new c some
  ]

  from_narrow : (c : Clause) → Contains (w.head ++ w.tail) c → Apart c
  from_narrow c there = apart_old c (subst (λ (cs : List Clause). Contains cs c) (sym w.narrow) there)

  apart_listed : (c : Clause) → Contains (w.head ++ (w.more ++ (w.tail ++ w.later))) c → Apart c
  apart_listed c there = elim (Contains-append_cases w.head (w.more ++ (w.tail ++ w.later)) c there) [
    | inl head ↦ from_narrow c (Contains-append_left w.head w.tail c head)
    | inr rest ↦ elim (Contains-append_cases w.more (w.tail ++ w.later) c rest) [
      | inl more ↦ apart_more c (Contains-append_left w.more w.later c more)
      | inr last ↦ elim (Contains-append_cases w.tail w.later c last) [
        | inl tail ↦ from_narrow c (Contains-append_right w.head w.tail c tail)
        | inr later ↦ apart_more c (Contains-append_right w.more w.later c later)
      ]
    ]
  ]

  apart_axiom : (e : Entry) → Contains (axioms_left q (new_lines s h)) e → Apart e.literals
  apart_axiom e there =
      let listed = clause_of 1 q.clauses e (filter_cases (stands (new_lines s h)) (axioms_from 1 q.clauses) e there).0 in
      apart_listed e.literals (subst (λ (cs : List Clause). Contains cs e.literals) w.wide listed)

  apart_own : (e : Entry) → Contains (own_left q (new_lines s h)) e → Apart e.literals
  apart_own e there contained =
      let moved : Contains (map (new_entry s) (own_left p h)) e =
      subst (λ (es : List Entry). Contains es e) (new_own_left s p q w.vars_stay w.vars_go h (shift_is s p q w)) there in
      let old = map_cases (new_entry s) (own_left p h) e moved in
      let stood : Contains (live p h) old.0 =
      subst (λ (es : List Entry). Contains es old.0) (sym (live_is p h)) (Contains-append_right (axioms_left p h) (own_left p h) old.0 old.1) in
      let back : IsContained (old.0).literals lits =
      contained_back s (old.0).literals lits (subst (λ (x : Entry). IsContained x.literals (new_clause s lits)) (sym old.2) contained) in
      All-contains (λ x. ¬ IsContained x.literals lits) (live p h) old.0 new stood back

  pub still_apart : All (λ e. ¬ IsContained e.literals (new_clause s lits)) (live q (new_lines s h))
  still_apart =
      all_from (λ e. ¬ IsContained e.literals (new_clause s lits)) (live q (new_lines s h))
      (λ e there. elim (Contains-append_cases (axioms_left q (new_lines s h)) (own_left q (new_lines s h)) e
      (subst (λ (es : List Entry). Contains es e) (live_is q (new_lines s h)) there)) [
        | inl listed ↦ apart_axiom e listed
        | inr own ↦ apart_own e own
      ])

still_new : (s : Shift) (p q : Problem) → IsWidened s p q → (h : History) (lits : Clause) → NoneRefused p h → IsNew p h lits →
    IsNew q (new_lines s h) (new_clause s lits)
still_new s p q w h lits right (inl ends) =
    inl (ap (λ n. denies (assumptions_of q n) (new_clause s lits)) (same_step s h)
    ∙ (ap (λ (a : Clause). denies a (new_clause s lits)) (new_assumptions s p q w (step_of h))
    ∙ (same_denies s (assumptions_of p (step_of h)) lits ∙ ends)))
still_new s p q w h lits right (inr new) = inr (still_apart s p q w h lits right new)

pub lemmas_stay_lean : (s : Shift) (p q : Problem) → IsWidened s p q → (h : History) → NoneRefused p h → LemmasAreLean p h →
    LemmasAreLean q (new_lines s h)
lemmas_stay_lean s p q w [] right lean = tt
lemmas_stay_lean s p q w (Solve ∷ h) right lean = lemmas_stay_lean s p q w h right.1 lean
lemmas_stay_lean s p q w (Block id lits ∷ h) right lean = lemmas_stay_lean s p q w h right.1 lean
lemmas_stay_lean s p q w (Finish id ∷ h) right lean = lemmas_stay_lean s p q w h right.1 lean
lemmas_stay_lean s p q w (Retire id ∷ h) right lean = lemmas_stay_lean s p q w h right.1 lean
lemmas_stay_lean s p q w (Delete ids ∷ h) right lean = lemmas_stay_lean s p q w h right.1 lean
lemmas_stay_lean s p q w (Lemma id lits hints ∷ h) right lean = (
  still_new s p q w h lits right.1 lean.0,
  subst (IsResolventOf (new_clause s lits)) (sym (new_hints s p q w h hints)) (still_resolvent s lits (clauses_of (live p h) hints) lean.1),
  lemmas_stay_lean s p q w h right.1 lean.2,
)
