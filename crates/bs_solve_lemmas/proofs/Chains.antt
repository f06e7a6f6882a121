-- A chain of reasons makes a right lemma.
use Rattle.std.proofs.Common.{◌≡◌, true, false, not, cond, List, [], ◌∷◌, ◌++◌, map, refl, sym, ap, ◌∙◌, inl, inr, ◌⊎◌, Some, None, eqb}
use Rattle.std.specs.Prelude.{option_and_then, is_some}
use Rattle.std.specs.List.{AllByRecursion, list_any}
use Rattle.std.proofs.lemmas.Bool.{and_parts, or_parts, or_cases, not-true, both_ways, false≢true, and_from, eq-eqb}
use Rattle.bs_clause.specs.Literal.{Literal, Clause, negation, same_literal, has_literal}
use Rattle.bs_clause.proofs.Literals.{same_literal-true}
use Rattle.bs_log.specs.Refusal.{has_distinct_variables}
use Rattle.bs_log.specs.Propagation.{open_literals, sole_unassigned, unit_literal, is_false, after_hints, ends_false, ends_false_after, start_of}
use Rattle.bs_log.specs.Lean.{implied_by}
use Rattle.bs_solve_lemmas.specs.Chain.{Link, IsChain, hints_of, ChainsAreRight}

Denied : List Literal → Literal → Type 0
Denied trues l = has_literal trues (negation l) ≡ true

none_open : (trues : List Literal) (c : Clause) → AllByRecursion (λ l. has_literal trues (negation l) ≡ true) c → open_literals trues c ≡ []
none_open trues [] all = refl
none_open trues (l ∷ c) all =
    ap (λ b. cond (not b) (l ∷ open_literals trues c) (open_literals trues c)) all.0 ∙ none_open trues c all.1

all_false : (trues : List Literal) (c : Clause) → AllByRecursion (λ l. has_literal trues (negation l) ≡ true) c → is_false trues c ≡ true
all_false trues [] all = refl
all_false trues (l ∷ c) all = and_from (has_literal trues (negation l)) (is_false trues c) all.0 (all_false trues c all.1)

-- the literals of other variables are denied
others_denied : (trues : List Literal) (p : Literal) (c : Clause) → list_any (λ m. eqb m.variable p.variable) c ≡ false →
    AllByRecursion (λ m. (m ≡ p) ⊎ (has_literal trues (negation m) ≡ true)) c → AllByRecursion (λ m. has_literal trues (negation m) ≡ true) c
others_denied trues p [] apart all = tt
others_denied trues p (m ∷ c) apart all =
    let parts = or_parts (eqb m.variable p.variable) (list_any (λ x. eqb x.variable p.variable) c) apart in
    let here : has_literal trues (negation m) ≡ true = elim (all.0) [
      | inl same ↦ absurd (both_ways (eqb m.variable p.variable) parts.0 (eq-eqb m.variable p.variable (ap (λ (l : Literal). l.variable) same)))
      | inr denied ↦ denied
    ] in
    (here, others_denied trues p c parts.1 all.1)

pub unit_at : (trues : List Literal) (p : Literal) (c : Clause) → has_literal c p ≡ true → has_distinct_variables c ≡ true →
    has_literal trues p ≡ false → has_literal trues (negation p) ≡ false →
    AllByRecursion (λ m. (m ≡ p) ⊎ (has_literal trues (negation m) ≡ true)) c → unit_literal trues c ≡ Some p
unit_at trues p [] stands distinct not_true not_false all = absurd (false≢true stands)
unit_at trues p (m ∷ c) stands distinct not_true not_false all =
    let apart = and_parts (not (list_any (λ x. eqb x.variable m.variable) c)) (has_distinct_variables c) distinct in
    elim (all.0) [
      | inl same ↦
          let here : has_literal trues (negation m) ≡ false = ap (λ l. has_literal trues (negation l)) same ∙ not_false in
          let rest : AllByRecursion (λ x. has_literal trues (negation x) ≡ true) c =
          others_denied trues p c (ap (λ (l : Literal). list_any (λ x. eqb x.variable l.variable) c) (sym same) ∙
          not-true (list_any (λ x. eqb x.variable m.variable) c) apart.0) all.1 in
          ap (sole_unassigned trues) (ap (λ b. cond (not b) (m ∷ open_literals trues c) (open_literals trues c)) here ∙
          ap (λ r. m ∷ r) (none_open trues c rest) ∙ ap (λ l. l ∷ []) same) ∙
          ap (λ b. cond b None (Some p)) not_true
      | inr denied ↦
          let later : has_literal c p ≡ true = elim (or_cases (same_literal p m) (has_literal c p) stands) [
            | inl same ↦ absurd (both_ways (has_literal trues (negation p)) not_false
                (ap (λ l. has_literal trues (negation l)) (same_literal-true p m same) ∙ denied))
            | inr later ↦ later
          ] in
          ap (sole_unassigned trues) (ap (λ b. cond (not b) (m ∷ open_literals trues c) (open_literals trues c)) denied) ∙
          unit_at trues p c later apart.1 not_true not_false all.1
    ]

-- what a chain makes of the hints, from some true literals on
record Leads (trues : List Literal) (links : List Link) (last : Clause) : Type 0 where
  final : List Literal
  after : after_hints trues (hints_of links last) ≡ Some final
  ends : ends_false (hints_of links last) final ≡ true
  implied : implied_by trues (hints_of links last) ≡ map (λ k. k.literal) links

-- one more hint before others
record Prepends (trues : List Literal) (c : Clause) (links : List Link) (last : Clause) : Type 0 where
  after : after_hints trues (c ∷ hints_of links last) ≡ option_and_then (λ l. after_hints (l ∷ trues) (hints_of links last)) (unit_literal trues c)
  ends : (final : List Literal) → ends_false (c ∷ hints_of links last) final ≡ ends_false (hints_of links last) final
  implied : implied_by trues (c ∷ hints_of links last) ≡
      elim (unit_literal trues c) [ None ↦ [] | Some l ↦ l ∷ implied_by (l ∷ trues) (hints_of links last) ]

prepends : (trues : List Literal) (c : Clause) (links : List Link) (last : Clause) → Prepends trues c links last
prepends trues c [] last = record { after = refl; ends = λ _. refl; implied = refl }
prepends trues c (k ∷ ks) last = record { after = refl; ends = λ _. refl; implied = refl }

leads : (lemma : Clause) (trues : List Literal) (links : List Link) (last : Clause) → IsChain lemma trues links last →
    Leads (trues ++ start_of lemma) links last
leads lemma trues [] last chain =
    record { final = trues ++ start_of lemma; after = refl; ends = all_false (trues ++ start_of lemma) last chain; implied = refl }
leads lemma trues (k ∷ ks) last chain =
    let on : List Literal = trues ++ start_of lemma in
    let unit : unit_literal on k.clause ≡ Some k.literal = unit_at on k.literal k.clause chain.0 chain.1 chain.2 chain.3 chain.4 in
    let rest : Leads (k.literal ∷ on) ks last = leads lemma (k.literal ∷ trues) ks last chain.5 in
    let step : Prepends on k.clause ks last = prepends on k.clause ks last in
    record {
      final = rest.final;
      after = step.after ∙ ap (option_and_then (λ l. after_hints (l ∷ on) (hints_of ks last))) unit ∙ rest.after;
      ends = step.ends rest.final ∙ rest.ends;
      implied = step.implied ∙ ap (λ o. elim o as (λ _. List Literal) [ None ↦ [] | Some l ↦ l ∷ implied_by (l ∷ on) (hints_of ks last) ]) unit ∙
          ap (λ r. k.literal ∷ r) rest.implied;
    }

pub chains_are_right : ChainsAreRight
chains_are_right lemma links last chain =
    let l : Leads (start_of lemma) links last = leads lemma [] links last chain in
    (ap is_some l.after, ap (ends_false_after (hints_of links last)) l.after ∙ l.ends, l.implied)
