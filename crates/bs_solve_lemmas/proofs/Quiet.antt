-- Laws of quiet trails.
use Rattle.std.proofs.Common.{◌≡◌, List, [], ◌∷◌, get_or, sym, subst, ◌∙◌, inl, inr, ◌⊎◌}
use Rattle.std.specs.Prelude.{All, Contains}
use Rattle.std.specs.List.{AllByRecursion}
use Rattle.std.proofs.lemmas.Bool.{cases_Bool}
use Rattle.std.proofs.lemmas.List.Elements.{All-contains, All-nil, All-cons, All-from_recursion, All-push, Contains-get_or}
use Rattle.bs_clause.specs.Literal.{Literal, Clause, negation, has_literal}
use Rattle.bs_clause.specs.UnitRun.{RunsFrom, IsImplied}
use Rattle.bs_clause.proofs.Literals.{Contains-from_has}
use Rattle.bs_log.specs.Lean.{IsContained}
use Rattle.bs_solve_lemmas.proofs.Literals.{absent}
use Rattle.bs_watch.specs.Trail.{IsTrueOn, IsFalseOn, IsOpenOn, IsConflict, IsUnit, IsQuiet}
use Rattle.bs_solve_lemmas.specs.Laws.{UnitRunsAreOnQuietTrails, LearntClausesAreNew, LearntClausesKeepQuiet}

-- a literal that the clauses imply is true where they are quiet
implied_is_true : (clauses : List Clause) (earlier trail : List Literal) (l : Literal) → IsQuiet trail clauses → All (IsTrueOn trail) earlier →
    IsImplied clauses earlier l → IsTrueOn trail l
implied_is_true clauses earlier trail l quiet before i =
    let c : Clause = i.0 in
    let others : All (λ m. (m ≡ l) ⊎ IsFalseOn trail m) c = λ k d h.
    elim (i.3 k d h) as (λ _. (get_or c k d ≡ l) ⊎ IsFalseOn trail (get_or c k d)) [
      | inl same ↦ inl same
      | inr there ↦ inr (All-contains (IsTrueOn trail) earlier (negation (get_or c k d)) before there)
    ] in
    elim (cases_Bool (has_literal trail l)) [
      | inl is ↦ Contains-from_has trail l is
      | inr not_true ↦ elim (cases_Bool (has_literal trail (negation l))) [
        | inl lost ↦
            let false_l : IsFalseOn trail l = Contains-from_has trail (negation l) lost in
            absurd (All-contains (λ x. ¬ IsConflict trail x) clauses c quiet.no_conflict i.1
            (λ k d h. elim (others k d h) [ inl same ↦ subst (IsFalseOn trail) (sym same) false_l | inr f ↦ f ]))
        | inr not_false ↦
            absurd (All-contains (λ x. ¬ IsUnit trail x) clauses c quiet.no_unit i.1
            (record { literal = l; stands = i.2; unassigned = (absent trail l not_true, absent trail (negation l) not_false); others = others }))
      ]
    ]

run_is_true : (clauses : List Clause) (assumptions earlier run trail : List Literal) → IsQuiet trail clauses → All (IsTrueOn trail) assumptions →
    All (IsTrueOn trail) earlier → RunsFrom clauses assumptions earlier run → AllByRecursion (IsTrueOn trail) run
run_is_true clauses assumptions earlier [] trail quiet given before r = tt
run_is_true clauses assumptions earlier (l ∷ run) trail quiet given before r =
    let here : IsTrueOn trail l = elim (r.0) [
      | inl assumed ↦ All-contains (IsTrueOn trail) assumptions l given assumed
      | inr implied ↦ implied_is_true clauses earlier trail l quiet before implied
    ] in
    (here, run_is_true clauses assumptions (l ∷ earlier) run trail quiet given (All-cons (IsTrueOn trail) l earlier here before) r.1)

pub unit_runs_are_on_quiet_trails : UnitRunsAreOnQuietTrails
unit_runs_are_on_quiet_trails clauses assumptions run trail quiet given r =
    All-from_recursion (IsTrueOn trail) run (run_is_true clauses assumptions [] run trail quiet given (All-nil (IsTrueOn trail)) r.implied)

-- a clause inside the learnt one is false or unit
contained_is_not_quiet : (trail : List Literal) (learnt c : Clause) (l : Literal) → IsOpenOn trail l → All (λ m. (m ≡ l) ⊎ IsFalseOn trail m) learnt →
    IsContained c learnt → (¬ IsConflict trail c) → (¬ IsUnit trail c) → ⊥
contained_is_not_quiet trail learnt c l open_l others inside no_conflict no_unit =
    let parts : All (λ m. (m ≡ l) ⊎ IsFalseOn trail m) c = λ k d h.
    All-contains (λ m. (m ≡ l) ⊎ IsFalseOn trail m) learnt (get_or c k d) others (inside k d h) in
    elim (cases_Bool (has_literal c l)) [
      | inl stands ↦ no_unit (record { literal = l; stands = Contains-from_has c l stands; unassigned = open_l; others = parts })
      | inr missing ↦ no_conflict (λ k d h. elim (parts k d h) [
        | inl same ↦ absurd (absent c l missing (subst (Contains c) same (Contains-get_or c k d h)))
        | inr f ↦ f
      ])
    ]

pub learnt_clauses_are_new : LearntClausesAreNew
learnt_clauses_are_new clauses trail learnt l quiet open_l others =
    λ k d h inside. contained_is_not_quiet trail learnt (get_or clauses k d) l open_l others inside (quiet.no_conflict k d h) (quiet.no_unit k d h)

not_false : (trail : List Literal) (m : Literal) (l : Literal) → IsOpenOn trail m → (m ≡ l) ⊎ IsFalseOn trail m → m ≡ l
not_false trail m l open_m h = elim h [ inl same ↦ same | inr f ↦ absurd (open_m.1 f) ]

pub learnt_clauses_keep_quiet : LearntClausesKeepQuiet
learnt_clauses_keep_quiet clauses trail learnt l m quiet apart l_in open_l m_in open_m = record {
  no_conflict = All-push (λ c. ¬ IsConflict trail c) clauses learnt quiet.no_conflict
      (λ conflict. open_l.1 (All-contains (IsFalseOn trail) learnt l conflict l_in));
  no_unit = All-push (λ c. ¬ IsUnit trail c) clauses learnt quiet.no_unit (λ u.
      let p : l ≡ u.literal = not_false trail l u.literal open_l (All-contains (λ x. (x ≡ u.literal) ⊎ IsFalseOn trail x) learnt l u.others l_in) in
      let q : m ≡ u.literal = not_false trail m u.literal open_m (All-contains (λ x. (x ≡ u.literal) ⊎ IsFalseOn trail x) learnt m u.others m_in) in
      apart (p ∙ sym q));
}
