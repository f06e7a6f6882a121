-- What meets two clauses meets their resolvent.
use Rattle.std.proofs.Common.{◌≡◌, ℕ, Bool, true, false, not, ◌||◌, cond, [], ◌∷◌, refl, sym, ap, ◌∙◌, inl, inr}
use Rattle.std.specs.List.{list_any, filter}
use Rattle.std.proofs.lemmas.Bool.{cases_Bool, not-false, or_left, or_right, or_cases}
use Rattle.std.proofs.lemmas.List.Folds.{list_any-append}
use Rattle.bs_clause.specs.Literal.{Literal, Clause, negation, same_literal, has_literal, literal_value, Satisfies}
use Rattle.bs_clause.specs.Resolvent.{without, once, news, resolvent}
use Rattle.bs_clause.proofs.Literals.{same_literal-true, literal_value-negation}
use Rattle.bs_clause.proofs.Values.{Satisfies-filter}

-- a clause is met without a literal that is false
pub Satisfies-without : (v : ℕ → Bool) (l : Literal) (c : Clause) → literal_value v l ≡ false → Satisfies v c → Satisfies v (without l c)
Satisfies-without v l c f h =
    Satisfies-filter v (λ m. not (same_literal l m)) (λ m gone. ap (literal_value v) (sym (same_literal-true l m (not-false (same_literal l m) gone))) ∙ f) c h

-- a true literal that stands in the clause makes it true
has_literal-meets : (v : ℕ → Bool) (c : Clause) (l : Literal) → has_literal c l ≡ true → literal_value v l ≡ true → Satisfies v c
has_literal-meets v [] l h t = h
has_literal-meets v (m ∷ c) l h t =
    elim (same_literal l m) as (λ b. same_literal l m ≡ b → (b || has_literal c l) ≡ true → (literal_value v m || list_any (literal_value v) c) ≡ true) [
      | true ↦ λ same _. or_left _ _ (ap (literal_value v) (sym (same_literal-true l m same)) ∙ t)
      | false ↦ λ _ later. or_right _ _ (has_literal-meets v c l later t)
    ] refl h

or_skip : (t x n : Bool) → (t || n) ≡ true → (t || (x || n)) ≡ true
or_skip true x n h = refl
or_skip false x n h = or_right x n h

or_here : (t x n : Bool) → x ≡ true → (t || (x || n)) ≡ true
or_here true x n h = refl
or_here false x n h = or_left x n h

-- what is not added stands in the clause already
new_or_there : (v : ℕ → Bool) (there c : Clause) → Satisfies v c →
    (list_any (literal_value v) there || list_any (literal_value v) (filter (λ m. not (has_literal there m)) c)) ≡ true
new_or_there v there [] h = or_right (list_any (literal_value v) there) false h
new_or_there v there (m ∷ c) h =
    let here : Bool = list_any (literal_value v) there in
    let new : Bool = list_any (literal_value v) (filter (λ m. not (has_literal there m)) c) in
    elim (has_literal there m) as (λ b. has_literal there m ≡ b →
    (list_any (literal_value v) there || list_any (literal_value v)
    (cond (not b) (m ∷ filter (λ m. not (has_literal there m)) c) (filter (λ m. not (has_literal there m)) c))) ≡ true) [
      | true ↦ λ stands. elim (or_cases (literal_value v m) (list_any (literal_value v) c) h) [
        | inl is ↦ or_left here new (has_literal-meets v there m stands is)
        | inr later ↦ new_or_there v there c later
      ]
      | false ↦ λ _. elim (or_cases (literal_value v m) (list_any (literal_value v) c) h) [
        | inl is ↦ or_here here (literal_value v m) new is
        | inr later ↦ or_skip here (literal_value v m) new (new_or_there v there c later)
      ]
    ] refl

-- a clause is met where it is met with each literal once
Satisfies-once : (v : ℕ → Bool) (c : Clause) → Satisfies v c → Satisfies v (once c)
Satisfies-once v [] h = h
Satisfies-once v (m ∷ c) h =
    elim (literal_value v m) as
    (λ b. literal_value v m ≡ b → (b || list_any (literal_value v) c) ≡ true → (b || list_any (literal_value v) (without m (once c))) ≡ true) [
      | true ↦ λ _ _. refl
      | false ↦ λ is later. Satisfies-without v m (once c) is (Satisfies-once v c later)
    ] refl h

pub Satisfies-resolvent : (v : ℕ → Bool) (a b : Clause) (pivot : Literal) → Satisfies v a → Satisfies v b → Satisfies v (resolvent a b pivot)
Satisfies-resolvent v a b pivot ha hb =
    list_any-append (literal_value v) (without pivot a) (news (without pivot a) (without (negation pivot) b)) ∙
    (elim (cases_Bool (literal_value v pivot)) [
      | inl is ↦ new_or_there v (without pivot a) (once (without (negation pivot) b))
          (Satisfies-once v (without (negation pivot) b) (Satisfies-without v (negation pivot) b (literal_value-negation v pivot ∙ ap not is) hb))
      | inr is_not ↦ or_left _ _ (Satisfies-without v pivot a is_not ha)
    ])
