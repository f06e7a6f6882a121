-- Hints whose clauses have their literals in another order.
use Rattle.std.proofs.Common.{◌≡◌, ◌≢◌, ℕ, zero, suc, ◌+◌, ◌-◌, ◌<◌, arith, Bool, true, false, not, cond, List, [], ◌∷◌, map, reverse, length}
use Rattle.std.proofs.Common.{drop, refl, sym, ap, subst, ◌∙◌, inl, inr, Option, Some, None}
use Rattle.std.specs.Prelude.{All, Any, Contains, slice_get, is_some, option_and_then, IsPermutation}
use Rattle.std.proofs.lemmas.Bool.{false≢true, and_from, and_parts}
use Rattle.std.proofs.lemmas.List.{length-reverse, get_or-reverse}
use Rattle.std.proofs.lemmas.List.Sums.{length-filter}
use Rattle.std.proofs.lemmas.List.Sorted.{IsPermutation-sym, Contains-permutation, sum_by-IsPermutation}
use Rattle.bs_clause.specs.Literal.{Literal, Clause, negation, has_literal}
use Rattle.bs_log.specs.Propagation.{open_literals, sole_unassigned, unit_literal, is_false, after_hints, ends_false, ends_false_after, start_of}
use Rattle.bs_log.specs.Lean.{implied_by}
use Rattle.bs_arena.specs.Arena.{Held, held_at, literals_at}
use Rattle.bs_watch.proofs.Gets.{none_is_not_some, same_some}
use Rattle.bs_solve_lemmas.specs.Reasons.{Spells}
use Rattle.bs_solve_lemmas.specs.AnalysisWalk.{IsRightBy, clauses_at}
use Rattle.bs_solve_lemmas.proofs.Clauses.{nothing_in, cons_contains, contains_first, contains_cases, any_cases, any_first, any_later, filter_cases, filter_from}

-- as many clauses, each with the same literals
abbrev pub AreRespelled : List Clause → List Clause → Type 0
AreRespelled [] [] = Unit {0}
AreRespelled [] (d ∷ ds) = ⊥
AreRespelled (c ∷ cs) [] = ⊥
AreRespelled (c ∷ cs) (d ∷ ds) = IsPermutation c d × AreRespelled cs ds

respelled_back : (cs ds : List Clause) → AreRespelled cs ds → AreRespelled ds cs
respelled_back [] [] s = tt
respelled_back [] (d ∷ ds) s = absurd s
respelled_back (c ∷ cs) [] s = absurd s
respelled_back (c ∷ cs) (d ∷ ds) s = (IsPermutation-sym c d s.0, respelled_back cs ds s.1)

respelled_drop : (n : ℕ) (cs ds : List Clause) → AreRespelled cs ds → AreRespelled (drop n cs) (drop n ds)
respelled_drop zero cs ds s = s
respelled_drop (suc n) [] [] s = tt
respelled_drop (suc n) [] (d ∷ ds) s = absurd s
respelled_drop (suc n) (c ∷ cs) [] s = absurd s
respelled_drop (suc n) (c ∷ cs) (d ∷ ds) s = respelled_drop n cs ds s.1

any_respelled : (m : Literal) (cs ds : List Clause) → AreRespelled cs ds → Any (λ c. Contains c m) cs → Any (λ c. Contains c m) ds
any_respelled m [] [] s a = a
any_respelled m [] (d ∷ ds) s a = absurd s
any_respelled m (c ∷ cs) [] s a = absurd s
any_respelled m (c ∷ cs) (d ∷ ds) s a = elim (any_cases (λ x. Contains x m) c cs a) [
  | inl here ↦ any_first (λ x. Contains x m) d ds (Contains-permutation c d m s.0 here)
  | inr later ↦ any_later (λ x. Contains x m) d ds (any_respelled m cs ds s.1 later)
]

-- ---- a unit clause

sole_parts : (trues : List Literal) (xs : List Literal) (l : Literal) → sole_unassigned trues xs ≡ Some l → (xs ≡ l ∷ []) × (has_literal trues l ≡ false)
sole_parts trues [] l e = absurd (none_is_not_some l e)
sole_parts trues (x ∷ []) l e = by (has_literal trues x) refl e
  where
    by : (b : Bool) → has_literal trues x ≡ b → cond b None (Some x) ≡ Some l → (x ∷ [] ≡ l ∷ []) × (has_literal trues l ≡ false)
    by true t e = absurd (none_is_not_some l e)
    by false t e = let same = same_some x l e in (ap (λ y. y ∷ []) same, ap (has_literal trues) (sym same) ∙ t)
sole_parts trues (x ∷ y ∷ ys) l e = absurd (none_is_not_some l e)

only_one : (xs : List Literal) (l : Literal) → length xs ≡ 1 → ((m : Literal) → Contains xs m → m ≡ l) → xs ≡ l ∷ []
only_one [] l e f = absurd (omega (arith, e))
only_one (x ∷ []) l e f = ap (λ y. y ∷ []) (f x (contains_first x []))
only_one (x ∷ y ∷ ys) l e f = absurd (omega (arith, e))

unit_respelled : (trues : List Literal) (c d : Clause) (l : Literal) → IsPermutation c d → unit_literal trues c ≡ Some l → unit_literal trues d ≡ Some l
unit_respelled trues c d l s e =
    ap (sole_unassigned trues) one ∙ ap (λ b. cond b None (Some l)) parts.1
  where
    is_open : Literal → Bool
    is_open m = not (has_literal trues (negation m))

    parts : (open_literals trues c ≡ l ∷ []) × (has_literal trues l ≡ false)
    parts = sole_parts trues (open_literals trues c) l e

    count : length (open_literals trues d) ≡ 1
    count = length-filter is_open d ∙ sum_by-IsPermutation (λ m. cond (is_open m) 1 0) c d s ∙ sym (length-filter is_open c) ∙ ap length parts.0

    one : open_literals trues d ≡ l ∷ []
    one = only_one (open_literals trues d) l count (λ m there.
        let in_d = filter_cases is_open d m there in
        let in_c : Contains (open_literals trues c) m = filter_from is_open c m (Contains-permutation d c m (IsPermutation-sym c d s) in_d.0) in_d.1 in
        elim (contains_cases l [] m (subst (λ xs. Contains xs m) parts.0 in_c)) [
          | inl same ↦ sym same
          | inr nothing ↦ absurd (nothing_in m nothing)
        ])

-- ---- all hints

after_respelled : (trues : List Literal) (cs ds : List Clause) → AreRespelled cs ds → is_some (after_hints trues cs) ≡ true →
    after_hints trues ds ≡ after_hints trues cs
after_respelled trues [] [] s e = refl
after_respelled trues [] (d ∷ ds) s e = absurd s
after_respelled trues (c ∷ cs) [] s e = absurd s
after_respelled trues (c ∷ []) (d ∷ []) s e = refl
after_respelled trues (c ∷ []) (d ∷ y ∷ ds) s e = absurd s.1
after_respelled trues (c ∷ x ∷ cs) (d ∷ []) s e = absurd s.1
after_respelled trues (c ∷ x ∷ cs) (d ∷ y ∷ ds) s e =
    by (unit_literal trues c) refl (λ l. after_respelled (l ∷ trues) (x ∷ cs) (y ∷ ds) s.1)
  where
    by : (o : Option Literal) → unit_literal trues c ≡ o →
        ((l : Literal) → is_some (after_hints (l ∷ trues) (x ∷ cs)) ≡ true → after_hints (l ∷ trues) (y ∷ ds) ≡ after_hints (l ∷ trues) (x ∷ cs)) →
        after_hints trues (d ∷ y ∷ ds) ≡ after_hints trues (c ∷ x ∷ cs)
    by None is rest = absurd (false≢true (sym (ap (λ o. is_some (option_and_then (λ l. after_hints (l ∷ trues) (x ∷ cs)) o)) is) ∙ e))
    by (Some l) is rest =
        let some : is_some (after_hints (l ∷ trues) (x ∷ cs)) ≡ true =
        sym (ap (λ o. is_some (option_and_then (λ l. after_hints (l ∷ trues) (x ∷ cs)) o)) is) ∙ e in
        ap (option_and_then (λ l. after_hints (l ∷ trues) (y ∷ ds))) (unit_respelled trues c d l s.0 is) ∙
        rest l some ∙
        sym (ap (option_and_then (λ l. after_hints (l ∷ trues) (x ∷ cs))) is)

implied_respelled : (trues : List Literal) (cs ds : List Clause) → AreRespelled cs ds → is_some (after_hints trues cs) ≡ true →
    implied_by trues ds ≡ implied_by trues cs
implied_respelled trues [] [] s e = refl
implied_respelled trues [] (d ∷ ds) s e = absurd s
implied_respelled trues (c ∷ cs) [] s e = absurd s
implied_respelled trues (c ∷ []) (d ∷ []) s e = refl
implied_respelled trues (c ∷ []) (d ∷ y ∷ ds) s e = absurd s.1
implied_respelled trues (c ∷ x ∷ cs) (d ∷ []) s e = absurd s.1
implied_respelled trues (c ∷ x ∷ cs) (d ∷ y ∷ ds) s e =
    by (unit_literal trues c) refl (λ l. implied_respelled (l ∷ trues) (x ∷ cs) (y ∷ ds) s.1)
  where
    step : (l : Literal) (a b : Clause) (more : List Clause) → unit_literal trues a ≡ Some l →
        implied_by trues (a ∷ b ∷ more) ≡ l ∷ implied_by (l ∷ trues) (b ∷ more)
    step l a b more is_a = ap (λ o. elim o as (λ _. List Literal) [ None ↦ [] | Some l ↦ l ∷ implied_by (l ∷ trues) (b ∷ more) ]) is_a

    by : (o : Option Literal) → unit_literal trues c ≡ o →
        ((l : Literal) → is_some (after_hints (l ∷ trues) (x ∷ cs)) ≡ true → implied_by (l ∷ trues) (y ∷ ds) ≡ implied_by (l ∷ trues) (x ∷ cs)) →
        implied_by trues (d ∷ y ∷ ds) ≡ implied_by trues (c ∷ x ∷ cs)
    by None is rest = absurd (false≢true (sym (ap (λ o. is_some (option_and_then (λ l. after_hints (l ∷ trues) (x ∷ cs)) o)) is) ∙ e))
    by (Some l) is rest =
        let some : is_some (after_hints (l ∷ trues) (x ∷ cs)) ≡ true =
        sym (ap (λ o. is_some (option_and_then (λ l. after_hints (l ∷ trues) (x ∷ cs)) o)) is) ∙ e in
        step l d y ds (unit_respelled trues c d l s.0 is) ∙ ap (λ ls. l ∷ ls) (rest l some) ∙ sym (step l c x cs is)

false_parts : (trues : List Literal) (c : Clause) → is_false trues c ≡ true → (m : Literal) → Contains c m → has_literal trues (negation m) ≡ true
false_parts trues [] e m there = absurd (nothing_in m there)
false_parts trues (x ∷ c) e m there =
    let parts = and_parts (has_literal trues (negation x)) (is_false trues c) e in
    elim (contains_cases x c m there) [
      | inl same ↦ ap (λ y. has_literal trues (negation y)) (sym same) ∙ parts.0
      | inr later ↦ false_parts trues c parts.1 m later
    ]

false_from : (trues : List Literal) (c : Clause) → ((m : Literal) → Contains c m → has_literal trues (negation m) ≡ true) → is_false trues c ≡ true
false_from trues [] f = refl
false_from trues (x ∷ c) f =
    and_from (has_literal trues (negation x)) (is_false trues c) (f x (contains_first x c)) (false_from trues c (λ m there. f m (cons_contains x c m there)))

ends_respelled : (trues : List Literal) (cs ds : List Clause) → AreRespelled cs ds → ends_false cs trues ≡ true → ends_false ds trues ≡ true
ends_respelled trues [] [] s e = e
ends_respelled trues [] (d ∷ ds) s e = absurd s
ends_respelled trues (c ∷ cs) [] s e = absurd s
ends_respelled trues (c ∷ []) (d ∷ []) s e =
    false_from trues d (λ m there. false_parts trues c e m (Contains-permutation d c m (IsPermutation-sym c d s.0) there))
ends_respelled trues (c ∷ []) (d ∷ y ∷ ds) s e = absurd s.1
ends_respelled trues (c ∷ x ∷ cs) (d ∷ []) s e = absurd s.1
ends_respelled trues (c ∷ x ∷ cs) (d ∷ y ∷ ds) s e = ends_respelled trues (x ∷ cs) (y ∷ ds) s.1 e

ends_after_respelled : (cs ds : List Clause) (o : Option (List Literal)) → AreRespelled cs ds → ends_false_after cs o ≡ true → ends_false_after ds o ≡ true
ends_after_respelled cs ds None s e = e
ends_after_respelled cs ds (Some trues) s e = ends_respelled trues cs ds s e

pub right_respelled : (lemma : Clause) (cs ds : List Clause) → AreRespelled cs ds → IsRightBy lemma cs → IsRightBy lemma ds
right_respelled lemma cs ds s r = record {
  unit = ap is_some after ∙ r.unit;
  last = ap (ends_false_after ds) after ∙ ends_after_respelled cs ds (after_hints (start_of lemma) cs) s r.last;
  resolvent = record {
    used = λ k l e. any_respelled (negation l) (drop (k + 1) cs) (drop (k + 1) ds) (respelled_drop (k + 1) cs ds s)
        (r.resolvent.used k l (subst (λ ls. slice_get ls k ≡ Some l) implied e));
    literals = λ l. (
      (λ there.
          let parts = (r.resolvent.literals l).0 there in (
            any_respelled l cs ds s parts.0,
            subst (λ ls. All (λ m. m.variable ≢ l.variable) ls) (sym implied) parts.1,
          )),
      (λ parts. (r.resolvent.literals l).1 (
        any_respelled l ds cs (respelled_back cs ds s) parts.0,
        subst (λ ls. All (λ m. m.variable ≢ l.variable) ls) implied parts.1,
      )),
    );
  };
}
  where
    after : after_hints (start_of lemma) ds ≡ after_hints (start_of lemma) cs
    after = after_respelled (start_of lemma) cs ds s r.unit

    implied : implied_by (start_of lemma) ds ≡ implied_by (start_of lemma) cs
    implied = implied_respelled (start_of lemma) cs ds s r.unit

-- ---- the clauses of an arena

reverse_all : (P : ℕ → Type 0) (rs : List ℕ) → All P rs → All P (reverse rs)
reverse_all P rs all = λ k d h.
    let within : k < length rs = omega (arith, h, length-reverse rs) in
    subst P (sym (get_or-reverse rs k d within)) (all (length rs - 1 - k) d (omega (arith, within)))

respelled_said : (clauses : List Held) (said : ℕ → Clause) (rs : List ℕ) → Spells clauses said → All (λ r. is_some (held_at clauses r) ≡ true) rs →
    AreRespelled (map (literals_at clauses) rs) (map said rs)
respelled_said clauses said [] s live = tt
respelled_said clauses said (r ∷ rs) s live =
    (s.same r (live 0 r (omega arith)), respelled_said clauses said rs s (λ k d h. live (suc k) d (omega (arith, h))))

pub right_as_said : (clauses : List Held) (lemma : Clause) (hints : List ℕ) (said : ℕ → Clause) → Spells clauses said →
    All (λ r. is_some (held_at clauses r) ≡ true) hints → IsRightBy lemma (clauses_at clauses hints) → IsRightBy lemma (map said (reverse hints))
right_as_said clauses lemma hints said s live =
    right_respelled lemma (clauses_at clauses hints) (map said (reverse hints))
    (respelled_said clauses said (reverse hints) s (reverse_all (λ r. is_some (held_at clauses r) ≡ true) hints live))
