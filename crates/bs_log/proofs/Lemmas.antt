-- The lemma that an id names.
use Rattle.std.proofs.Common.{◌≡◌, ℕ, ◌+◌, arith, Bool, true, false, cond, eqb, List, [], ◌∷◌, ◌++◌, refl, sym, ap, ◌∙◌, Option, Some, None, inl, inr, ◌⊎◌}
use Rattle.std.specs.Option.{option_or}
use Rattle.std.specs.List.{AllByRecursion}
use Rattle.std.proofs.lemmas.Bool.{eqb-true, false≢true}
use Rattle.bs_clause.specs.Literal.{Clause, negation}
use Rattle.bs_log.specs.declared.line.Line.TheVariants.{Solve, Lemma, Block, Finish, Retire, Delete}
use Rattle.bs_log.specs.declared.origin.Origin.TheVariants.{Learnt, Blocked, Retired}
use Rattle.bs_log.specs.History.{Problem, History, Entry, axioms_from, step_of, activation_of, added, last_id, state_of, phase_of}
use Rattle.bs_log.specs.Refusal.{NoneRefused, entry_of, is_lemma, in_solve, has_distinct_variables}
use Rattle.bs_log.proofs.Elements.{AllByRecursion-find}
use Rattle.bs_log.proofs.Tests.{right_from_none}
use Rattle.bs_log.proofs.Histories.{next_given, added_ids}
use Rattle.bs_log.specs.Proof.{lemma_in}
use Rattle.bs_log.proofs.Found.{found_append, found_above}

-- the entry is the lemma that a line of this id gives, and no variable stands in it twice
pub record IsLemmaOf (h : History) (id : ℕ) (e : Entry) : Type 0 where
  pub is : lemma_in h id ≡ e.literals
  pub distinct : has_distinct_variables e.literals ≡ true

axioms_are_none : (n : ℕ) (cs : List Clause) → AllByRecursion (λ e. is_lemma e ≡ false) (axioms_from n cs)
axioms_are_none n [] = tt
axioms_are_none n (c ∷ cs) = (refl, axioms_are_none (n + 1) cs)

-- what is found behind one clause more
found_last : (o : Option Entry) (e x : Entry) (b : Bool) → option_or o (cond b (Some x) None) ≡ Some e → (o ≡ Some e) ⊎ ((b ≡ true) × (o ≡ None) × (x ≡ e))
found_last (Some y) e x b is = inl is
found_last None e x true is = let same : x ≡ e = cc in inr (refl, refl, same)
found_last None e x false is = absurd (cc)

-- a clause more that is no lemma
not_last : (xs : List Entry) (x e : Entry) (id : ℕ) → is_lemma x ≡ false → is_lemma e ≡ true → entry_of (xs ++ x ∷ []) id ≡ Some e → entry_of xs id ≡ Some e
not_last xs x e id none one found =
    elim (found_last (entry_of xs id) e x (eqb x.id id) (sym (found_append xs (x ∷ []) id) ∙ found)) [
      | inl there ↦ there
      | inr here ↦ absurd (false≢true (sym none ∙ (ap is_lemma here.2 ∙ one)))
    ]

pub lemma_found : (p : Problem) (h : History) (id : ℕ) (e : Entry) → NoneRefused p h → is_lemma e ≡ true → entry_of (added p h) id ≡ Some e → IsLemmaOf h id e
lemma_found p [] id e right one found =
    absurd (false≢true (sym (AllByRecursion-find (λ (e : Entry). is_lemma e ≡ false) (λ x. eqb x.id id) (axioms_from 1 p.clauses) e (axioms_are_none 1 p.clauses) found) ∙ one))
lemma_found p (Solve ∷ h) id e right one found = let r = lemma_found p h id e right.1 one found in record { is = r.is; distinct = r.distinct }
lemma_found p (Finish other ∷ h) id e right one found = let r = lemma_found p h id e right.1 one found in record { is = r.is; distinct = r.distinct }
lemma_found p (Delete ids ∷ h) id e right one found = let r = lemma_found p h id e right.1 one found in record { is = r.is; distinct = r.distinct }
lemma_found p (Block other lits ∷ h) id e right one found =
    let r = lemma_found p h id e right.1 one (not_last (added p h) (record { id = other; origin = Blocked; literals = lits }) e id refl one found) in
    record { is = r.is; distinct = r.distinct }
lemma_found p (Retire other ∷ h) id e right one found =
    let r =
    lemma_found p h id e right.1 one
    (not_last (added p h) (record { id = other; origin = Retired; literals = negation (activation_of p (step_of h)) ∷ [] }) e id refl one found) in
    record { is = r.is; distinct = r.distinct }
lemma_found p (Lemma other lits hints ∷ h) id e right one found = by (eqb other id) refl (λ there. lemma_found p h id e right.1 one there)
  where
    x : Entry
    x = record { id = other; origin = Learnt; literals = lits }

    all : option_or (entry_of (added p h) id) (cond (eqb other id) (Some x) None) ≡ Some e
    all = sym (found_append (added p h) (x ∷ []) id) ∙ found

    above : eqb other id ≡ true → entry_of (added p h) id ≡ None
    above same =
        let is = eqb-true other id same in
        let next = next_given p h (in_solve (phase_of h)) other (right_from_none p (state_of p h) (Lemma other lits hints) right.0).order in
        found_above (last_id p h) (added p h) id (added_ids p h right.1) (omega (arith, is, next))

    by : (b : Bool) → eqb other id ≡ b → (entry_of (added p h) id ≡ Some e → IsLemmaOf h id e) → IsLemmaOf (Lemma other lits hints ∷ h) id e
    by true same later =
        let e_is : Some x ≡ Some e =
        ap (λ (o : Option Entry). option_or o (Some x)) (sym (above same))
        ∙ (ap (λ b. option_or (entry_of (added p h) id) (cond b (Some x) None)) (sym same) ∙ all) in
        let is : x ≡ e = cc in
        record {
          is = ap (λ b. cond b lits (lemma_in h id)) same ∙ ap (λ (y : Entry). y.literals) is;
          distinct =
              ap (λ (y : Entry). has_distinct_variables y.literals) (sym is) ∙ (right_from_none p (state_of p h) (Lemma other lits hints) right.0).distinct;
        }
    by false apart later =
        elim (found_last (entry_of (added p h) id) e x (eqb other id) all) [
          | inl there ↦ let r = later there in record { is = ap (λ b. cond b lits (lemma_in h id)) apart ∙ r.is; distinct = r.distinct }
          | inr here ↦ absurd (false≢true (sym apart ∙ here.0))
        ]
