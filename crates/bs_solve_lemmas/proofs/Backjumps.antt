-- What a learnt clause leaves of the trail, and how the trail's number rises.
use Rattle.std.proofs.Common.{◌≡◌, ◌≢◌, ℕ, zero, suc, ◌+◌, ◌-◌, ◌<◌, ◌≤◌, arith, Bool, true, false, not, ◌&&◌, ◌||◌, List, [], ◌∷◌, ◌++◌, length}
use Rattle.std.proofs.Common.{take, drop, refl, sym, ap, subst, ◌∙◌, inl, inr, ◌⊎◌, Some}
use Rattle.std.specs.Prelude.{All, Contains, slice_get}
use Rattle.std.proofs.lemmas.Bool.{cases_Bool, false≢true, true≢false, and_from, and_parts, or_cases, or_left, or_right, cases_lt}
use Rattle.std.proofs.lemmas.List.{length-drop, map-append, length-take-le, length-map, drop-append-le, take-take}
use Rattle.std.proofs.lemmas.List.Elements.{All-contains, Contains-append_right}
use Rattle.bs_clause.specs.Literal.{Literal, Clause, negation, same_literal, has_literal}
use Rattle.bs_clause.proofs.Literals.{same_literal-true}
use Rattle.bs_log.specs.Refusal.{denies}
use Rattle.bs_log.specs.Lean.{IsContained}
use Rattle.bs_solve_lemmas.specs.Place.{LoggedPlace}
use Rattle.bs_watch.specs.Trail.{IsTrueOn, IsFalseOn, IsOpenOn, Implies, IsQuiet}
use Rattle.bs_solve_lemmas.specs.Bound.{number}
use Rattle.bs_solve_lemmas.specs.Places.{logged_literals, AreWarranted}
use Rattle.bs_solve_lemmas.specs.Point.{is_alone_at, IsLoggedDecision, IsCut, IsLoggedReasonless, AreImplied}
use Rattle.bs_solve_lemmas.specs.Learning.{digits, after_learning}
use Rattle.bs_watch.proofs.Gets.{none_is_not_some, same_some, get_take, get_within}
use Rattle.bs_clause.proofs.Literals.{same_literal-refl, has-from_Contains, Contains-from_has}
use Rattle.bs_solve_lemmas.proofs.Literals.{absent}
use Rattle.bs_solve_lemmas.proofs.Quiet.{learnt_clauses_are_new, learnt_clauses_keep_quiet}
use Rattle.bs_solve_lemmas.proofs.Numbers.{number_rises, number_grows}
use Rattle.bs_solve_lemmas.proofs.Places.{sound_take, sound_clause, sound_push, placed_from_implied}
use Rattle.bs_solve_lemmas.proofs.Clauses.{nothing_in, cons_contains, contains_first, contains_cases, all_from, not_same}
use Rattle.bs_watch.proofs.Literals.{negation-negation}
use Rattle.bs_solve_lemmas.proofs.Fronts.{true_later, true_at_end, open_earlier, place_of, one_place}

-- ---- all but one false

-- each literal is the one, or false
pub others_from_alone : (places : List LoggedPlace) (end : ℕ) (u : Literal) (c : Clause) → is_alone_at places end u c ≡ true →
    (m : Literal) → Contains c m → (m ≡ u) ⊎ IsFalseOn (logged_literals (take end places)) m
others_from_alone places end u [] e m there = absurd (nothing_in m there)
others_from_alone places end u (x ∷ c) e m there =
    let parts = and_parts (same_literal u x || has_literal (logged_literals (take end places)) (negation x)) (is_alone_at places end u c) e in
    elim (contains_cases x c m there) [
      | inl same ↦ subst (λ y. (y ≡ u) ⊎ IsFalseOn (logged_literals (take end places)) y) same
          (elim (or_cases (same_literal u x) (has_literal (logged_literals (take end places)) (negation x)) parts.0) [
            | inl is ↦ inl (sym (same_literal-true u x is))
            | inr f ↦ inr (Contains-from_has (logged_literals (take end places)) (negation x) f)
          ])
      | inr later ↦ others_from_alone places end u c parts.1 m later
    ]

pub alone_from_others : (places : List LoggedPlace) (end : ℕ) (u : Literal) (c : Clause) →
    ((m : Literal) → Contains c m → (m ≡ u) ⊎ IsFalseOn (logged_literals (take end places)) m) →
    is_alone_at places end u c ≡ true
alone_from_others places end u [] f = refl
alone_from_others places end u (x ∷ c) f =
    and_from (same_literal u x || has_literal (logged_literals (take end places)) (negation x)) (is_alone_at places end u c)
    (elim (f x (contains_first x c)) [
      | inl same ↦ or_left (same_literal u x) (has_literal (logged_literals (take end places)) (negation x)) (ap (same_literal u) same ∙ same_literal-refl u)
      | inr there ↦ or_right (same_literal u x) (has_literal (logged_literals (take end places)) (negation x))
          (has-from_Contains (logged_literals (take end places)) (negation x) there)
    ])
    (alone_from_others places end u c (λ m there. f m (cons_contains x c m there)))

-- one more than this literal was not false
pub record Another (places : List LoggedPlace) (end : ℕ) (u : Literal) (c : Clause) : Type 0 where
  pub literal : Literal
  pub stands : Contains c literal
  pub other : u ≢ literal
  pub not_false : ¬ IsFalseOn (logged_literals (take end places)) literal

pub another : (places : List LoggedPlace) (end : ℕ) (u : Literal) (c : Clause) → is_alone_at places end u c ≡ false → Another places end u c
another places end u [] e = absurd (true≢false e)
another places end u (x ∷ c) e =
    by (same_literal u x) (has_literal (logged_literals (take end places)) (negation x)) refl refl e (another places end u c)
  where
    later : Another places end u c → Another places end u (x ∷ c)
    later rest = record { literal = rest.literal; stands = cons_contains x c rest.literal rest.stands; other = rest.other; not_false = rest.not_false }

    by : (s t : Bool) → same_literal u x ≡ s → has_literal (logged_literals (take end places)) (negation x) ≡ t → ((s || t) && is_alone_at places end u c) ≡ false →
        (is_alone_at places end u c ≡ false → Another places end u c) → Another places end u (x ∷ c)
    by true t s_is t_is e rest = later (rest e)
    by false true s_is t_is e rest = later (rest e)
    by false false s_is t_is e rest = record {
      literal = x;
      stands = contains_first x c;
      other = not_same u x s_is;
      not_false = absent (logged_literals (take end places)) (negation x) t_is;
    }

-- nothing is true and false
pub consistent : (clauses : List Clause) (base : ℕ) (a : List Literal) (places : List LoggedPlace) → AreWarranted clauses base a places → (l : Literal) →
    IsTrueOn (logged_literals places) l → ¬ IsFalseOn (logged_literals places) l
consistent clauses base a places s l t f =
    let (i, p, at_i, is_p) = place_of (λ (x : LoggedPlace). x.literal) places l t in
    let (j, q, at_j, is_q) = place_of (λ (x : LoggedPlace). x.literal) places (negation l) f in
    let together : i ≡ j = one_place (λ (x : LoggedPlace). x.literal) places (λ k p at. (s.placed k p at).unassigned) i j p q at_i at_j
    (ap (λ (x : Literal). x.variable) is_p ∙ sym (ap (λ (x : Literal). x.variable) is_q)) in
    let same_place : p ≡ q = same_some p q (sym at_i ∙ ap (slice_get places) together ∙ at_j) in
    not_itself l.positive (ap (λ (x : Literal). x.positive) (sym is_p ∙ ap (λ (r : LoggedPlace). r.literal) same_place ∙ is_q))
  where
    not_itself : (b : Bool) → b ≡ not b → ⊥
    not_itself true e = false≢true (sym e)
    not_itself false e = false≢true e

pub open_negation : (trail : List Literal) (l : Literal) → IsOpenOn trail l → IsOpenOn trail (negation l)
open_negation trail l o = (o.1, (λ f. o.0 (subst (Contains trail) (negation-negation l) f)))

-- ---- the learnt clause

pub record Learns (clauses : List Clause) (base : ℕ) (a : List Literal) (places : List LoggedPlace) (c : Clause) (u : Literal) (cut : ℕ) : Type 0 where
  pub implies : Implies (logged_literals (take cut places)) c u
  pub new : All (λ d. ¬ IsContained d c) clauses
  pub sound : AreWarranted (clauses ++ c ∷ []) base a (after_learning places u cut)
  pub free : IsOpenOn (logged_literals (take cut places)) u

pub learns : (clauses : List Clause) (base start at : ℕ) (a : List Literal) (places : List LoggedPlace) (c : Clause) (p : LoggedPlace) (cut : ℕ) →
    AreWarranted clauses base a places → slice_get places at ≡ Some p → start ≤ at → Contains c (negation p.literal) →
    IsCut places base start (negation p.literal) c cut → Learns clauses base a places c (negation p.literal) cut
learns clauses base start at a places c p cut s there low denied k = record {
  implies = implies;
  new = learnt_clauses_are_new clauses (logged_literals (take cut places)) c u quiet free implies.others;
  sound = sound_push (clauses ++ c ∷ []) base a (take cut places) (record { literal = u; implied = true }) kept
      (placed_from_implied (clauses ++ c ∷ []) base a (take cut places) (record { literal = u; implied = true })
      (record { is = refl; clause = c; there = Contains-append_right clauses (c ∷ []) c (contains_first c []); implies = implies }));
  free = free;
}
  where
    u : Literal
    u = negation p.literal

    free : IsOpenOn (logged_literals (take cut places)) (negation p.literal)
    free = open_negation (logged_literals (take cut places)) p.literal
        (open_earlier (λ (x : LoggedPlace). x.literal) places cut at p.literal (let h = k.high in omega (arith, h, low)) (s.placed at p there).unassigned)

    implies : Implies (logged_literals (take cut places)) c (negation p.literal)
    implies = record {
      stands = denied;
      unassigned = free;
      others = all_from (λ m. (m ≡ u) ⊎ IsFalseOn (logged_literals (take cut places)) m) c (others_from_alone places cut u c k.alone);
    }

    cut_within : cut < length places
    cut_within = get_within places cut k.decided.place k.decided.there

    length_cut : length (take cut places) ≡ cut
    length_cut = length-take-le cut places (let h = cut_within in omega (arith, h))

    quiet : IsQuiet (logged_literals (take cut places)) clauses
    quiet = (s.placed cut k.decided.place k.decided.there).quiet k.decided.decision (let h = length_cut in let l = k.low in omega (arith, h, l))

    quiet_at : (j : ℕ) (q : LoggedPlace) → slice_get (take cut places) j ≡ Some q → q.implied ≡ false → base ≤ j →
        IsQuiet (logged_literals (take j (take cut places))) (clauses ++ c ∷ [])
    quiet_at j q found none above =
        let at_j = get_take cut places j q found in
        let before : j < cut = at_j.0 in
        let within = get_within places j q at_j.1 in
        let old : IsQuiet (logged_literals (take j places)) clauses =
        (s.placed j q at_j.1).quiet none (let e = length-take-le j places (omega (arith, within)) in omega (arith, e, above)) in
        let one : Another places j u c = another places j u c (k.earlier j above before (record { place = q; there = at_j.1; decision = none })) in
        let false_m : IsFalseOn (logged_literals (take cut places)) one.literal = elim (others_from_alone places cut u c k.alone one.literal one.stands) [
          | inl same ↦ absurd (one.other (sym same))
          | inr f ↦ f
        ] in
        let open_m : IsOpenOn (logged_literals (take j places)) one.literal = (
          (λ t. consistent clauses base a places s one.literal (true_at_end (λ (x : LoggedPlace). x.literal) places j one.literal t)
              (true_at_end (λ (x : LoggedPlace). x.literal) places cut (negation one.literal) false_m)),
          one.not_false,
        ) in
        let open_u : IsOpenOn (logged_literals (take j places)) u = open_earlier (λ (x : LoggedPlace). x.literal) places j cut u (omega (arith, before)) free in
        subst (λ xs. IsQuiet (logged_literals xs) (clauses ++ c ∷ [])) (sym (take-take j cut places (omega (arith, before))))
        (learnt_clauses_keep_quiet clauses (logged_literals (take j places)) c u one.literal old one.other denied open_u one.stands open_m)

    kept : AreWarranted (clauses ++ c ∷ []) base a (take cut places)
    kept = sound_clause clauses c base a (take cut places) (sound_take clauses base a places cut s) quiet_at

-- the clause does not end its step
pub not_denying : (clauses : List Clause) (base start at : ℕ) (a : List Literal) (places : List LoggedPlace) (c : Clause) (p : LoggedPlace) →
    AreWarranted clauses base a places → slice_get places at ≡ Some p → base ≤ start → start ≤ at → Contains c (negation p.literal) →
    All (IsTrueOn (logged_literals (take base places))) a → denies a c ≡ false
not_denying clauses base start at a places c p s there low high denied given = elim (cases_Bool (denies a c)) [
  | inr unlike ↦ unlike
  | inl alike ↦ absurd (
      let has : has_literal a (negation (negation p.literal)) ≡ true = at_member c (negation p.literal) denied alike in
      let in_a : Contains a p.literal = subst (Contains a) (negation-negation p.literal) (Contains-from_has a (negation (negation p.literal)) has) in
      let early : IsTrueOn (logged_literals (take base places)) p.literal = All-contains (IsTrueOn (logged_literals (take base places))) a p.literal given in_a in
      (s.placed at p there).unassigned.0 (true_later (λ (x : LoggedPlace). x.literal) places base at p.literal (omega (arith, low, high)) early))
]
  where
    at_member : (xs : Clause) (m : Literal) → Contains xs m → denies a xs ≡ true → has_literal a (negation m) ≡ true
    at_member [] m there e = absurd (nothing_in m there)
    at_member (x ∷ xs) m there e =
        let parts = and_parts (has_literal a (negation x)) (denies a xs) e in
        elim (contains_cases x xs m there) [
          | inl same ↦ ap (λ y. has_literal a (negation y)) (sym same) ∙ parts.0
          | inr later ↦ at_member xs m later parts.1
        ]

-- without a decision the literals without a reason are assumptions
pub denies_from_reasonless : (clauses : List Clause) (base : ℕ) (a : List Literal) (places : List LoggedPlace) (c : Clause) → AreWarranted clauses base a places →
    AreImplied places base → All (λ l. IsLoggedReasonless places (negation l)) c → denies a c ≡ true
denies_from_reasonless clauses base a places [] s f all = refl
denies_from_reasonless clauses base a places (l ∷ c) s f all =
    and_from (has_literal a (negation l)) (denies a c)
    (let free = all 0 l (omega arith) in
    elim (cases_lt free.at base) [
      | inl below ↦
          let within = get_within places free.at free.place free.there in
          let in_a = (s.placed free.at free.place free.there).assumed free.free
          (let e = length-take-le free.at places (omega (arith, within)) in omega (arith, e, below)) in
          has-from_Contains a (negation l) (subst (Contains a) free.same in_a)
      | inr above ↦ absurd (false≢true (sym free.free ∙ f free.at free.place above free.there))
    ])
    (denies_from_reasonless clauses base a places c s f (λ k d h. all (suc k) d (omega (arith, h))))

-- ---- the number

split_at : {X : Type 0} (xs : List X) (k : ℕ) (x : X) → slice_get xs k ≡ Some x → xs ≡ take k xs ++ x ∷ drop (suc k) xs
split_at [] k x e = absurd (none_is_not_some x e)
split_at (y ∷ xs) zero x e = ap (λ z. z ∷ xs) (same_some y x e)
split_at (y ∷ xs) (suc k) x e = ap (λ r. y ∷ r) (split_at xs k x e)

pub learning_rises : (base vars : ℕ) (places : List LoggedPlace) (u : Literal) (cut : ℕ) → base ≤ cut → IsLoggedDecision places cut →
    length places ≤ vars →
    number (vars - base) (drop base (digits places)) + 1 ≤ number (vars - base) (drop base (digits (after_learning places u cut)))
learning_rises base vars places u cut low d room =
    let front : List LoggedPlace = take cut places in
    let within = get_within places cut d.place d.there in
    let length_front : length front ≡ cut = length-take-le cut places (omega (arith, within)) in
    let length_digits : length (digits front) ≡ cut = length-map front (λ (p : LoggedPlace). p.implied) ∙ length_front in
    let old : drop base (digits places) ≡ drop base (digits front) ++ false ∷ digits (drop (suc cut) places) =
    ap (λ ps. drop base (digits ps)) (split_at places cut d.place d.there) ∙
    ap (drop base) (map-append (λ (p : LoggedPlace). p.implied) front (d.place ∷ drop (suc cut) places)) ∙
    drop-append-le base (digits front) (d.place.implied ∷ digits (drop (suc cut) places)) (omega (arith, length_digits, low)) ∙
    ap (λ o. drop base (digits front) ++ o ∷ digits (drop (suc cut) places)) d.decision in
    let new : drop base (digits (after_learning places u cut)) ≡ drop base (digits front) ++ true ∷ [] =
    ap (drop base) (map-append (λ (p : LoggedPlace). p.implied) front (record { literal = u; implied = true } ∷ [])) ∙
    drop-append-le base (digits front) (true ∷ []) (omega (arith, length_digits, low)) in
    let short : length (drop base (digits front)) < vars - base =
    omega (arith, length-drop base (digits front), length_digits, low, within, room) in
    subst (λ xs. number (vars - base) xs + 1 ≤ number (vars - base) (drop base (digits (after_learning places u cut)))) (sym old)
    (subst (λ xs. number (vars - base) (drop base (digits front) ++ false ∷ digits (drop (suc cut) places)) + 1 ≤ number (vars - base) xs) (sym new)
    (number_rises (vars - base) (drop base (digits front)) (digits (drop (suc cut) places)) short))

-- more literals lower no digit
pub growing_lowers_nothing : (n base : ℕ) (places : List LoggedPlace) (more : List LoggedPlace) → base ≤ length places →
    number n (drop base (digits places)) ≤ number n (drop base (digits (places ++ more)))
growing_lowers_nothing n base places more low =
    subst (λ xs. number n (drop base (digits places)) ≤ number n xs)
    (sym (ap (drop base) (map-append (λ (p : LoggedPlace). p.implied) places more) ∙
    drop-append-le base (digits places) (digits more) (omega (arith, low, length-map places (λ (p : LoggedPlace). p.implied)))))
    (number_grows n (drop base (digits places)) (digits more))
