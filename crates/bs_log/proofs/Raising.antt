-- Where ids go.
use Rattle.std.proofs.Common.{◌≡◌, ◌≢◌, ℕ, ◌+◌, ◌<◌, ◌≤◌, arith, Bool, true, false, ◌||◌, cond, eqb, leb, List, [], ◌∷◌, map, refl, sym, ap, ◌∙◌, inl, inr, ◌⊎◌}
use Rattle.std.specs.List.{list_any}
use Rattle.std.proofs.lemmas.Bool.{eq-eqb, ne_eqb, cases_eq, leb-true, leb-false, le-leb, lt-leb}
use Rattle.bs_log.specs.Lines.{raised}
use Rattle.bs_log.specs.declared.id_offsets.Frame.{Frame}

pub raised_low : (f : Frame) (id : ℕ) → id ≤ f.front → raised f id ≡ id
raised_low f id low = ap (λ b. cond b id (id + f.by)) (le-leb id f.front low)

pub raised_high : (f : Frame) (id : ℕ) → f.front < id → raised f id ≡ id + f.by
raised_high f id high = ap (λ b. cond b id (id + f.by)) (lt-leb id f.front high)

pub same_raised : (f : Frame) (a b : ℕ) → eqb (raised f a) (raised f b) ≡ eqb a b
same_raised f a b = by (leb a f.front) refl (leb b f.front) refl
  where
    shifted : eqb (a + f.by) (b + f.by) ≡ eqb a b
    shifted = elim (cases_eq a b) [
      | inl same ↦ eq-eqb (a + f.by) (b + f.by) (omega (arith, same)) ∙ sym (eq-eqb a b same)
      | inr other ↦ ne_eqb (a + f.by) (b + f.by) (λ e. other (omega (arith, e))) ∙ sym (ne_eqb a b other)
    ]

    by : (x : Bool) → leb a f.front ≡ x → (y : Bool) → leb b f.front ≡ y → eqb (cond x a (a + f.by)) (cond y b (b + f.by)) ≡ eqb a b
    by true low true _ = refl
    by true low false high =
        let l = leb-true a f.front low in
        let h = leb-false b f.front high in
        ne_eqb a (b + f.by) (λ e. omega (arith, e, l, h)) ∙ sym (ne_eqb a b (λ e. omega (arith, e, l, h)))
    by false high true low =
        let l = leb-true b f.front low in
        let h = leb-false a f.front high in
        ne_eqb (a + f.by) b (λ e. omega (arith, e, l, h)) ∙ sym (ne_eqb a b (λ e. omega (arith, e, l, h)))
    by false _ false _ = shifted

-- the ids between are nobody's
pub raised_apart : (f : Frame) (a j : ℕ) → f.front < j → j ≤ f.front + f.by → raised f a ≢ j
raised_apart f a j low high e = elim (leb_cases a) [
  | inl under ↦ let is = raised_low f a under in omega (arith, is, e, under, low)
  | inr over ↦ let is = raised_high f a over in omega (arith, is, e, over, high)
]
  where
    leb_cases : (a : ℕ) → (a ≤ f.front) ⊎ (f.front < a)
    leb_cases a = by (leb a f.front) refl
      where
        by : (b : Bool) → leb a f.front ≡ b → (a ≤ f.front) ⊎ (f.front < a)
        by true is = inl (leb-true a f.front is)
        by false is = inr (leb-false a f.front is)

pub same_names : (f : Frame) (i : ℕ) (ds : List ℕ) → list_any (λ d. eqb (raised f i) d) (map (raised f) ds) ≡ list_any (λ d. eqb i d) ds
same_names f i [] = refl
same_names f i (d ∷ ds) =
    ap (λ t. t || list_any (λ x. eqb (raised f i) x) (map (raised f) ds)) (same_raised f i d) ∙ ap (λ t. eqb i d || t) (same_names f i ds)

pub no_names : (f : Frame) (j : ℕ) (ds : List ℕ) → f.front < j → j ≤ f.front + f.by → list_any (λ d. eqb j d) (map (raised f) ds) ≡ false
no_names f j [] low high = refl
no_names f j (d ∷ ds) low high =
    ap (λ t. t || list_any (λ x. eqb j x) (map (raised f) ds)) (ne_eqb j (raised f d) (λ e. raised_apart f d j low high (sym e)))
    ∙ no_names f j ds low high
