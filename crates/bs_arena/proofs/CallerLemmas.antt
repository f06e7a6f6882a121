-- The variables without a value wait, whatever is assigned, and where what opens comes back.
use Rattle.std.proofs.Common.{◌≡◌, ◌≢◌, ◌⊎◌, ℕ, ◌+◌, ◌*◌, ◌<◌, ◌≤◌, arith, List, length, get_or, set, replicate, refl, sym, ap, ◌∙◌, inl, inr}
use Rattle.std.specs.Prelude.{Bool, true, false, ◌||◌}
use Rattle.std.proofs.lemmas.Bool.{cases_eq, cases_lt, false≢true}
use Rattle.std.proofs.lemmas.List.{get_or-set_same, get_or-set_other, get_or_past, length-set}
use Rattle.bs_arena.specs.Open.{HoldsOpen, is_in}

-- a place that is not true after one more was set was not true
not_before : (xs : List Bool) (i j : ℕ) → get_or (set xs i true) j false ≡ false → get_or xs j false ≡ false
not_before xs i j e = elim (cases_eq j i) as (λ _. get_or xs j false ≡ false) [
  | inl same ↦ elim (cases_lt i (length xs)) as (λ _. get_or xs j false ≡ false) [
    | inl within ↦ absurd (false≢true (sym e ∙ ap (λ k. get_or (set xs i true) k false) same ∙ get_or-set_same xs i true false within))
    | inr past ↦ get_or_past xs j false (omega (arith, same, past))
  ]
  | inr other ↦ sym (get_or-set_other xs i j true false other) ∙ e
]

pub neither : (a b : Bool) → (a || b) ≡ false → (a ≡ false) × (b ≡ false)
neither true b e = absurd (false≢true (sym e))
neither false b e = (refl, e)

-- a literal becomes true
pub holds_assigned : (order values : List Bool) (code : ℕ) → HoldsOpen order values → HoldsOpen order (set values code true)
holds_assigned order values code o = record {
  each = λ v low within open'.
      let both = neither (get_or (set values code true) (2 * v) false) (get_or (set values code true) (2 * v + 1) false) open' in
      let even : get_or values (2 * v) false ≡ false = not_before values code (2 * v) both.0 in
      let odd : get_or values (2 * v + 1) false ≡ false = not_before values code (2 * v + 1) both.1 in
      o.each v low within ((λ i. even i || get_or values (2 * v + 1) false) ∙ odd);
}

-- a literal is no longer true, and its variable comes back
pub holds_undone : (order values : List Bool) (v code : ℕ) → (code ≡ 2 * v) ⊎ (code ≡ 2 * v + 1) → v < length order → HoldsOpen order values →
    HoldsOpen (set order v true) (set values code false)
holds_undone order values v code is inside o = record {
  each = λ u low within open'. elim (cases_eq u v) as (λ _. is_in (set order v true) u ≡ true) [
    | inl same ↦ ap (λ k. get_or (set order v true) k false) same ∙ get_or-set_same order v true false inside
    | inr other ↦
        let even : get_or (set values code false) (2 * u) false ≡ get_or values (2 * u) false =
        get_or-set_other values code (2 * u) false false (λ e. elim is [ inl x ↦ other (omega (arith, e, x)) | inr x ↦ other (omega (arith, e, x)) ]) in
        let odd : get_or (set values code false) (2 * u + 1) false ≡ get_or values (2 * u + 1) false =
        get_or-set_other values code (2 * u + 1) false false (λ e. elim is [ inl x ↦ other (omega (arith, e, x)) | inr x ↦ other (omega (arith, e, x)) ]) in
        let long : length (set order v true) ≡ length order = length-set order v true in
        get_or-set_other order v u true false other ∙
        o.each u low (omega (arith, within, long)) ((λ i. sym even i || sym odd i) ∙ open')
  ];
}
