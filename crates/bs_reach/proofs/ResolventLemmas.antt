-- Resolvents stay resolvents, and a clause contains another wherever both go.
use Rattle.std.proofs.Common.{◌≡◌, ◌≢◌, ℕ, ◌+◌, List, [], ◌∷◌, map, refl, sym, ap, subst, ◌∙◌, Option, Some, None}
use Rattle.std.specs.Prelude.{All, Any, Contains, option_map, slice_get, drop}
use Rattle.std.proofs.lemmas.List.{drop-map}
use Rattle.std.proofs.lemmas.List.Elements.{All-contains}
use Rattle.std.proofs.lemmas.Option.{slice_get-map}
use Rattle.bs_clause.specs.Literal.{Literal, Clause, negation}
use Rattle.bs_log.specs.Propagation.{unit_literal, start_of}
use Rattle.bs_log.specs.Lean.{implied_by, IsContained, IsResolventOf}
use Rattle.bs_solve_lemmas.proofs.Clauses.{all_from, map_cases, map_contains}
use Rattle.bs_reach.specs.declared.offsets.Shift.{Shift}
use Rattle.bs_reach.specs.Renamed.{new_variable, new_literal, new_clause}
use Rattle.bs_reach.proofs.ShiftLemmas.{variable_back, literal_back}
use Rattle.bs_reach.proofs.PropagationLemmas.{new_unit, new_start}

-- ---- membership

pub any_of : {X : Type 0} (P : X → Type 0) (xs : List X) (x : X) → Contains xs x → P x → Any P xs
any_of P xs x c p = (c.0, x, c.1, c.2, p)

pub record IsAny {X : Type 0} (P : X → Type 0) (xs : List X) : Type 0 where
  pub one : X
  pub there : Contains xs one
  pub is : P one

pub one_of : {X : Type 0} (P : X → Type 0) (xs : List X) → Any P xs → IsAny P xs
one_of P xs a = record { one = a.1; there = (a.0, a.2, a.3); is = a.4 }

any_map : {X Y : Type 0} (P : X → Type 0) (Q : Y → Type 0) (f : X → Y) (xs : List X) → ((x : X) → P x → Q (f x)) → Any P xs → Any Q (map f xs)
any_map P Q f xs g a = let o = one_of P xs a in any_of Q (map f xs) (f o.one) (map_contains f xs o.one o.there) (g o.one o.is)

-- a literal of the new clause is where one of the clause goes
pub contains_back : (s : Shift) (c : Clause) (l : Literal) → Contains (new_clause s c) (new_literal s l) → Contains c l
contains_back s c l h =
    let m = map_cases (new_literal s) c (new_literal s l) h in
    subst (Contains c) (literal_back s m.0 l m.2) m.1

pub contained_back : (s : Shift) (c d : Clause) → IsContained (new_clause s c) (new_clause s d) → IsContained c d
contained_back s c d h =
    all_from (Contains d) c (λ l there.
    contains_back s d l (All-contains (Contains (new_clause s d)) (new_clause s c) (new_literal s l) h (map_contains (new_literal s) c l there)))

-- ---- resolvents

new_implied : (s : Shift) (trues : List Literal) (cs : List Clause) →
    implied_by (new_clause s trues) (map (new_clause s) cs) ≡ new_clause s (implied_by trues cs)
new_implied s trues [] = refl
new_implied s trues (c ∷ []) = refl
new_implied s trues (c ∷ d ∷ cs) =
    ap (λ (o : Option Literal). elim o as (λ _. List Literal) [
      | None ↦ []
      | Some l ↦ l ∷ implied_by (l ∷ new_clause s trues) (map (new_clause s) (d ∷ cs))
    ]) (new_unit s trues c)
    ∙ by (unit_literal trues c) (λ l. new_implied s (l ∷ trues) (d ∷ cs))
  where
    by : (o : Option Literal) →
        ((l : Literal) → implied_by (new_clause s (l ∷ trues)) (map (new_clause s) (d ∷ cs)) ≡ new_clause s (implied_by (l ∷ trues) (d ∷ cs))) →
        elim (option_map (new_literal s) o) as (λ _. List Literal) [
          | None ↦ []
          | Some l ↦ l ∷ implied_by (l ∷ new_clause s trues) (map (new_clause s) (d ∷ cs))
        ] ≡ new_clause s (elim o as (λ _. List Literal) [ None ↦ [] | Some l ↦ l ∷ implied_by (l ∷ trues) (d ∷ cs) ])
    by None rest = refl
    by (Some l) rest = ap (λ (r : List Literal). new_literal s l ∷ r) (rest l)

implied_start : (s : Shift) (lemma : Clause) (hints : List Clause) →
    implied_by (start_of (new_clause s lemma)) (map (new_clause s) hints) ≡ new_clause s (implied_by (start_of lemma) hints)
implied_start s lemma hints =
    ap (λ (t : List Literal). implied_by t (map (new_clause s) hints)) (new_start s lemma) ∙ new_implied s (start_of lemma) hints

some_back : {X Y : Type 0} (f : X → Y) (o : Option X) (y : Y) → option_map f o ≡ Some y → (x : X) × (o ≡ Some x) × (f x ≡ y)
some_back f None y e = absurd (cc)
some_back f (Some x) y e = let same : f x ≡ y = cc in (x, refl, same)

module _ (s : Shift) (lemma : Clause) (hints : List Clause) (r : IsResolventOf lemma hints) where
  abbrev implied : List Literal
  implied = implied_by (start_of lemma) hints

  abbrev new_hints : List Clause
  new_hints = map (new_clause s) hints

  still_used : (k : ℕ) (l : Literal) → slice_get (new_clause s implied) k ≡ Some l → Any (λ c. Contains c (negation l)) (drop (k + 1) new_hints)
  still_used k l e =
      let old = some_back (new_literal s) (slice_get implied k) l (sym (slice_get-map (new_literal s) implied k) ∙ e) in
      let there : Any (λ c. Contains c (negation old.0)) (drop (k + 1) hints) = r.used k old.0 old.1 in
      let moved : Any (λ c. Contains c (negation (new_literal s old.0))) (map (new_clause s) (drop (k + 1) hints)) =
      any_map (λ c. Contains c (negation old.0)) (λ c. Contains c (negation (new_literal s old.0))) (new_clause s) (drop (k + 1) hints)
      (λ c h. map_contains (new_literal s) c (negation old.0) h) there in
      subst (λ (m : Literal). Any (λ c. Contains c (negation m)) (drop (k + 1) new_hints)) old.2
      (subst (Any (λ c. Contains c (negation (new_literal s old.0)))) (sym (drop-map (new_clause s) (k + 1) hints)) moved)

  abbrev Left : List Clause → List Literal → Literal → Type 0
  Left cs made l = Any (λ c. Contains c l) cs × All (λ m. m.variable ≢ l.variable) made

  left_from : (l : Literal) → Contains (new_clause s lemma) l → Left new_hints (new_clause s implied) l
  left_from l there =
      let old = map_cases (new_literal s) lemma l there in
      let both : Left hints implied old.0 = (r.literals old.0).0 old.1 in
      subst (Left new_hints (new_clause s implied)) old.2
      ((
        any_map (λ c. Contains c old.0) (λ c. Contains c (new_literal s old.0)) (new_clause s) hints
            (λ c h. map_contains (new_literal s) c old.0 h) both.0,
        all_from (λ m. m.variable ≢ (new_literal s old.0).variable) (new_clause s implied) (λ m h.
            let from = map_cases (new_literal s) implied m h in
            λ same. All-contains (λ n. n.variable ≢ (old.0).variable) implied from.0 both.1 from.1
            (variable_back s (from.0).variable (old.0).variable (ap (λ (n : Literal). n.variable) from.2 ∙ same))),
      ))

  left_to : (l : Literal) → Left new_hints (new_clause s implied) l → Contains (new_clause s lemma) l
  left_to l both =
      let a = one_of (λ c. Contains c l) new_hints both.0 in
      let hint = map_cases (new_clause s) hints a.one a.there in
      let old = map_cases (new_literal s) hint.0 l (subst (λ (c : Clause). Contains c l) (sym hint.2) a.is) in
      let apart : All (λ m. m.variable ≢ (old.0).variable) implied =
      all_from (λ m. m.variable ≢ (old.0).variable) implied (λ m h same.
      All-contains (λ n. n.variable ≢ l.variable) (new_clause s implied) (new_literal s m) both.1 (map_contains (new_literal s) implied m h)
      (ap (new_variable s) same ∙ ap (λ (n : Literal). n.variable) old.2)) in
      subst (Contains (new_clause s lemma)) old.2
      (map_contains (new_literal s) lemma old.0 ((r.literals old.0).1 (any_of (λ c. Contains c old.0) hints hint.0 hint.1 old.1, apart)))

  pub still_resolvent : IsResolventOf (new_clause s lemma) new_hints
  still_resolvent =
      let e = implied_start s lemma hints in
      record {
        used = λ k l is. still_used k l (sym (ap (λ (xs : List Literal). slice_get xs k) e) ∙ is);
        literals = λ l. (
          (λ there. subst (λ (xs : List Literal). Left new_hints xs l) (sym e) (left_from l there)),
          (λ both. left_to l (subst (λ (xs : List Literal). Left new_hints xs l) e both)),
        );
      }
