-- How far back a net has its bit.
use Rattle.std.proofs.Common.{◌≡◌, ◌≢◌, ℕ, ◌<◌, ◌≤◌, ◌+◌, ◌-◌, Bool, true, false, not, List, [], ◌∷◌, ◌++◌, length, get_or, refl, ap, sym, subst, ◌∙◌, ◌⊎◌, inl, inr, ⊎_elim, arith}
use Rattle.std.specs.Bool.{beq}
use Rattle.std.specs.List.{All}
use Rattle.std.proofs.lemmas.Bool.{cases_eq, cases_lt}
use Rattle.std.proofs.lemmas.List.{get_or_append_left, get_or_default, get_or_push, length_push}
use Rattle.bs_net.specs.Circuit.{Circuit}
use Rattle.bs_net_facts.specs.declared.fact.Fact.{Fact}
use Rattle.bs_net_facts.specs.Facts.{IsReal, IsWayOf}
use Rattle.bs_net_facts.specs.Blocks.{moved}
use Rattle.bs_inspect_causes.specs.Since.{AreAges, Stands, StoodSince, Turns}

pub bit_known : (nets cycles net cycle : ℕ) → net < nets → cycle < cycles → (nets ≤ net) ⊎ (cycles ≤ cycle) → ⊥
bit_known nets cycles net cycle below in_time (inl le) = absurd (omega (arith, below, le))
bit_known nets cycles net cycle below in_time (inr le) = absurd (omega (arith, in_time, le))

-- ---- one net

pub net_there : (c : Circuit) (states inputs : List (List Bool)) (f : Fact) → IsReal c states inputs f → f.net.0 < c.nets
net_there c states inputs f real = real.placed

pub cycle_there : (c : Circuit) (states inputs : List (List Bool)) (f : Fact) (k since : ℕ) → IsWayOf c states inputs → IsReal c states inputs f →
    k < f.cycle → since ≡ f.cycle - k → since - 1 < length inputs
cycle_there c states inputs f k since way real lt e = omega (arith, way.one_more, real.in_time, lt, e)

pub stands_begin : (c : Circuit) (states inputs : List (List Bool)) (f : Fact) → IsReal c states inputs f → Stands c states inputs f (f.cycle - 0)
stands_begin c states inputs f real = record {
  in_order = omega arith;
  each = λ t ge le.
      let same : t ≡ f.cycle = omega (arith, ge, le) in
      subst (λ (u : ℕ). IsReal c states inputs (moved u f)) (sym same) real;
}

pub stands_more : (c : Circuit) (states inputs : List (List Bool)) (f : Fact) (k since : ℕ) (changed : Bool) → k < f.cycle → since ≡ f.cycle - k →
    Turns c states inputs f since changed → changed ≡ false → Stands c states inputs f (f.cycle - k) → Stands c states inputs f (f.cycle - (k + 1))
stands_more c states inputs f k since changed lt e turns off stands = record {
  in_order = omega arith;
  each = λ t ge le.
      ⊎_elim
      (λ (here : t ≡ since - 1). subst (λ (u : ℕ). IsReal c states inputs (moved u f)) (sym here) (turns.if_false off))
      (λ (other : t ≡ since - 1 → ⊥).
      let apart : t ≢ since - 1 = other in
      let low : f.cycle - k ≤ t = omega (arith, ge, le, lt, e, apart) in
      stands.each t low le)
      (cases_eq t (since - 1));
}

same_bit : (b own : Bool) → not (beq b own) ≡ false → b ≡ own
same_bit true true e = refl
same_bit false false e = refl
same_bit true false e = absurd cc
same_bit false true e = absurd cc

other_bit : (b own : Bool) → not (beq b own) ≡ true → b ≡ not own
other_bit true false e = refl
other_bit false true e = refl
other_bit true true e = absurd cc
other_bit false false e = absurd cc

bits_turn : (c : Circuit) (states inputs : List (List Bool)) (f : Fact) (since : ℕ) (bit : Bool) →
    IsReal c states inputs (record { net = f.net; cycle = since - 1; bit = bit }) → Turns c states inputs f since (not (beq bit f.bit))
bits_turn c states inputs f since bit real = record {
  if_true = λ is. subst At (other_bit bit f.bit is) real;
  if_false = λ is. subst At (same_bit bit f.bit is) real;
}
  where
    At : Bool → Type 0
    At b = IsReal c states inputs (record { net = f.net; cycle = since - 1; bit = b })

pub turns_is : (c : Circuit) (states inputs : List (List Bool)) (f : Fact) (since : ℕ) (bit result : Bool) →
    IsReal c states inputs (record { net = f.net; cycle = since - 1; bit = bit }) → result ≡ not (beq bit f.bit) → Turns c states inputs f since result
turns_is c states inputs f since bit result real e = subst (Turns c states inputs f since) (sym e) (bits_turn c states inputs f since bit real)

pub stood_here : (c : Circuit) (states inputs : List (List Bool)) (f : Fact) (k since : ℕ) (changed : Bool) → since ≡ f.cycle - k →
    Turns c states inputs f since changed → changed ≡ true → Stands c states inputs f (f.cycle - k) → StoodSince c states inputs f since
stood_here c states inputs f k since changed e turns is stands =
    record { stands = subst (Stands c states inputs f) (sym e) stands; began = inr (turns.if_true is) }

pub stood_all : (c : Circuit) (states inputs : List (List Bool)) (f : Fact) (k : ℕ) → f.cycle ≤ k → Stands c states inputs f (f.cycle - k) →
    StoodSince c states inputs f 0
stood_all c states inputs f k le stands =
    let none : f.cycle - k ≡ 0 = omega (arith, le) in
    record { stands = subst (Stands c states inputs f) none stands; began = inl refl }

-- ---- all facts

pub real_here : (c : Circuit) (states inputs : List (List Bool)) (facts : List Fact) (i : ℕ) (f : Fact) → All (IsReal c states inputs) facts →
    i < length facts → f ≡ get_or facts i f → IsReal c states inputs f
real_here c states inputs facts i f real lt e = subst (IsReal c states inputs) (sym e) (real i f lt)

pub ages_begin : (c : Circuit) (states inputs : List (List Bool)) (facts : List Fact) (ages : List ℕ) → ages ≡ [] → AreAges c states inputs facts 0 ages
ages_begin c states inputs facts ages e = record { size = ap length e; each = λ i d lt. absurd (omega (arith, lt)) }

pub ages_more : (c : Circuit) (states inputs : List (List Bool)) (facts : List Fact) (i : ℕ) (f : Fact) (since : ℕ) (ages after : List ℕ) → i < length facts →
    f ≡ get_or facts i f → AreAges c states inputs facts i ages → StoodSince c states inputs f since → after ≡ ages ++ since ∷ [] →
    AreAges c states inputs facts (i + 1) after
ages_more c states inputs facts i f since ages after lt at are stood goes =
    subst (AreAges c states inputs facts (i + 1)) (sym goes)
    (record {
      size = length_push ages since ∙ (let h : length ages + 1 ≡ i + 1 = omega (arith, are.size) in h);
      each = λ j d less. by j d less (cases_lt j i);
    })
  where
    by : (j : ℕ) (d : Fact) → j < i + 1 → (j < i) ⊎ (i ≤ j) → StoodSince c states inputs (get_or facts j d) (get_or (ages ++ since ∷ []) j 0)
    by j d less (inl before) =
        subst (StoodSince c states inputs (get_or facts j d))
        (sym (get_or_append_left ages (since ∷ []) 0 j (omega (arith, before, are.size)))) (are.each j d before)
    by j d less (inr le) =
        let same : i ≡ j = omega (arith, less, le) in
        subst (λ (n : ℕ). StoodSince c states inputs (get_or facts n d) (get_or (ages ++ since ∷ []) n 0)) same
        (subst (StoodSince c states inputs (get_or facts i d)) (sym (get_or_push ages since 0 i are.size))
        (subst (λ (g : Fact). StoodSince c states inputs g since) (at ∙ get_or_default facts i f d lt) stood))

-- the same, with what is known first
pub ages_push : (c : Circuit) (states inputs : List (List Bool)) (facts : List Fact) (i since : ℕ) (ages after : List ℕ) (f : Fact) →
    AreAges c states inputs facts i ages → StoodSince c states inputs f since → after ≡ ages ++ since ∷ [] → i < length facts → f ≡ get_or facts i f →
    AreAges c states inputs facts (i + 1) after
ages_push c states inputs facts i since ages after f are stood goes lt at = ages_more c states inputs facts i f since ages after lt at are stood goes
