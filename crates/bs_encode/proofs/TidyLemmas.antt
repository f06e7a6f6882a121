-- Clauses without repeats and without tautologies say the same.
use Rattle.std.proofs.Common.{◌≡◌, ℕ, ◌<◌, ◌+◌, Bool, true, false, not, ◌&&◌, ◌||◌, cond, List, [], ◌∷◌, ◌++◌, map, refl, sym, ap, ◌∙◌, inl, inr}
use Rattle.std.proofs.Common.{append-nil, take, length, get_or}
use Rattle.std.specs.List.{list_any, list_all, filter}
use Rattle.std.proofs.lemmas.List.{take_more}
use Rattle.std.proofs.lemmas.Bool.{false≢true, cases_Bool, or_left, or_right, or_cases}
use Rattle.bs_clause.specs.Literal.{Literal, Clause, negation, same_literal, has_literal, literal_value}
use Rattle.bs_clause.specs.Resolvent.{without, once}
use Rattle.bs_clause.proofs.Literals.{same_literal-true, literal_value-negation}
use Rattle.bs_clause.proofs.News.{has_literal-once, once-push}
use Rattle.bs_encode.specs.Transition.{is_tautology, tidied}

-- whether an assignment meets a clause, and some clauses
abbrev pub meets : (ℕ → Bool) → Clause → Bool
meets a c = list_any (literal_value a) c

abbrev pub meets_all : (ℕ → Bool) → List Clause → Bool
meets_all a cs = list_all (meets a) cs

-- leaving out copies of l where l stands changes nothing
meets-without : (a : ℕ → Bool) (l : Literal) (c : Clause) → (literal_value a l || meets a (without l c)) ≡ (literal_value a l || meets a c)
meets-without a l [] = refl
meets-without a l (m ∷ c) = by (same_literal l m) refl (meets-without a l c)
  where
    skip : (x y z w : Bool) → (x || z) ≡ (x || w) → (x || (y || z)) ≡ (x || (y || w))
    skip true y z w h = refl
    skip false true z w h = refl
    skip false false z w h = h

    drop_frame : (x z w : Bool) → (x || z) ≡ (x || w) → (x || z) ≡ (x || (x || w))
    drop_frame true z w h = refl
    drop_frame false z w h = h

    by : (b : Bool) → same_literal l m ≡ b → (literal_value a l || meets a (without l c)) ≡ (literal_value a l || meets a c) →
        (literal_value a l || meets a (cond (not b) (m ∷ without l c) (without l c))) ≡ (literal_value a l || (literal_value a m || meets a c))
    by true e rest =
        drop_frame (literal_value a l) _ _ rest
        ∙ ap (λ k. literal_value a l || (literal_value a k || meets a c)) (same_literal-true l m e)
    by false e rest = skip (literal_value a l) (literal_value a m) _ _ rest

pub meets-once : (a : ℕ → Bool) (c : Clause) → meets a (once c) ≡ meets a c
meets-once a [] = refl
meets-once a (l ∷ c) =
    meets-without a l (once c) ∙ ap (λ b. literal_value a l || b) (meets-once a c)

-- a literal that stands in a clause makes it true
has-meets : (a : ℕ → Bool) (c : Clause) (l : Literal) → has_literal c l ≡ true → literal_value a l ≡ true → meets a c ≡ true
has-meets a [] l h t = h
has-meets a (m ∷ c) l h t = by (same_literal l m) refl h (λ k. has-meets a c l k t)
  where
    by : (b : Bool) → same_literal l m ≡ b → (b || has_literal c l) ≡ true → (has_literal c l ≡ true → meets a c ≡ true) →
        (literal_value a m || meets a c) ≡ true
    by true e k rest = or_left _ (meets a c) (ap (literal_value a) (sym (same_literal-true l m e)) ∙ t)
    by false e k rest = or_right (literal_value a m) _ (rest k)

-- a tautology is always met
pub tautology-meets : (a : ℕ → Bool) (whole c : Clause) → list_any (λ l. has_literal whole (negation l)) c ≡ true →
    (meets a c ≡ true → meets a whole ≡ true) → meets a whole ≡ true
tautology-meets a whole [] h part = absurd (false≢true h)
tautology-meets a whole (l ∷ c) h part =
    elim (cases_Bool (literal_value a l)) [
      | inl is ↦ part (or_left (literal_value a l) (meets a c) is)
      | inr is_not ↦ elim (or_cases (has_literal whole (negation l)) (list_any (λ m. has_literal whole (negation m)) c) h) [
        | inl has ↦ has-meets a whole (negation l) has (literal_value-negation a l ∙ ap not is_not)
        | inr later ↦ tautology-meets a whole c later (λ k. part (or_right (literal_value a l) (meets a c) k))
      ]
    ]

pub meets-tidied : (a : ℕ → Bool) (cs : List Clause) → meets_all a (tidied cs) ≡ meets_all a cs
meets-tidied a [] = refl
meets-tidied a (c ∷ cs) = by (is_tautology c) refl (meets-tidied a cs)
  where
    by : (b : Bool) → is_tautology c ≡ b → meets_all a (tidied cs) ≡ meets_all a cs →
        meets_all a (map once (cond (not b) (c ∷ filter (λ d. not (is_tautology d)) cs) (filter (λ d. not (is_tautology d)) cs))) ≡
        (meets a c && meets_all a cs)
    by true e rest = rest ∙ ap (λ b. b && meets_all a cs) (sym (tautology-meets a c c e (λ k. k)))
    by false e rest =
        ap (λ b. b && meets_all a (tidied cs)) (meets-once a c) ∙ ap (λ b. meets a c && b) rest

-- ---- one more literal, which is left out where it stands

pub repeats_more_has : (c : Clause) (i : ℕ) (d : Literal) → i < length c → has_literal (once (take i c)) (get_or c i d) ≡ true →
    once (take (i + 1) c) ≡ once (take i c)
repeats_more_has c i d lt e =
    ap once (take_more c i d lt)
    ∙ (once-push (take i c) (get_or c i d)
    ∙ (ap (λ b. once (take i c) ++ cond b [] (get_or c i d ∷ [])) (sym (has_literal-once (take i c) (get_or c i d)) ∙ e)
    ∙ append-nil (once (take i c))))

pub repeats_more_new : (c : Clause) (i : ℕ) (d : Literal) → i < length c → has_literal (once (take i c)) (get_or c i d) ≡ false →
    once (take (i + 1) c) ≡ once (take i c) ++ get_or c i d ∷ []
repeats_more_new c i d lt e =
    ap once (take_more c i d lt)
    ∙ (once-push (take i c) (get_or c i d)
    ∙ ap (λ b. once (take i c) ++ cond b [] (get_or c i d ∷ [])) (sym (has_literal-once (take i c) (get_or c i d)) ∙ e))
