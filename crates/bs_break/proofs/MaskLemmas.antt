-- Masks, bit by bit.
use Rattle.std.proofs.Common.{◌≡◌, ℕ, suc, zero, ◌<◌, ◌≤◌, ◌+◌, ◌-◌, ◌*◌, ◌^◌, Bool, true, false, ◌&&◌, ◌||◌, List, [], ◌∷◌, length, map, take, drop}
use Rattle.std.proofs.Common.{get_or, refl, arith, ap, ap₂, sym, subst, ◌∙◌, min, max}
use Rattle.std.specs.Prelude.{◌==◌}
use Rattle.std.specs.Bool.{beq}
use Rattle.std.specs.Int.{bit_at, w64}
use Rattle.std.specs.Int.Bits.{bit_and, bit_or}
use Rattle.std.specs.List.{list_any}
use Rattle.std.proofs.lemmas.List.{drop_more, drop_all, take_all}
use Rattle.std.proofs.lemmas.Nat.{row_fits}
use Rattle.std.proofs.lemmas.Nat.Bits.{bit_at_and, bit_at_or, bit_at_not, bit_at-lt, bit_at-zero}
use Rattle.bs_break.specs.Masks.{has, shows, IsCut, Agrees, IsUnion}

-- ---- words

with_one : (x y : ℕ) → x < 2 → y < 2 → (min x y == 1) ≡ ((x == 1) && beq (y == 1) true)
with_one zero zero h k = refl
with_one zero (suc zero) h k = refl
with_one (suc zero) zero h k = refl
with_one (suc zero) (suc zero) h k = refl
with_one zero (suc (suc y)) h k = absurd (omega (arith, k))
with_one (suc zero) (suc (suc y)) h k = absurd (omega (arith, k))
with_one (suc (suc x)) y h k = absurd (omega (arith, h))

with_zero : (x y : ℕ) → x < 2 → y < 2 → (min x (1 - y) == 1) ≡ ((x == 1) && beq (y == 1) false)
with_zero zero zero h k = refl
with_zero zero (suc zero) h k = refl
with_zero (suc zero) zero h k = refl
with_zero (suc zero) (suc zero) h k = refl
with_zero zero (suc (suc y)) h k = absurd (omega (arith, k))
with_zero (suc zero) (suc (suc y)) h k = absurd (omega (arith, k))
with_zero (suc (suc x)) y h k = absurd (omega (arith, h))

either : (x y : ℕ) → x < 2 → y < 2 → (max x y == 1) ≡ ((x == 1) || (y == 1))
either zero zero h k = refl
either zero (suc zero) h k = refl
either (suc zero) zero h k = refl
either (suc zero) (suc zero) h k = refl
either zero (suc (suc y)) h k = absurd (omega (arith, k))
either (suc zero) (suc (suc y)) h k = absurd (omega (arith, k))
either (suc (suc x)) y h k = absurd (omega (arith, h))

pub cut_one : (mask word : ℕ) (bit : Bool) → bit ≡ true → IsCut mask word bit (bit_and mask word)
cut_one mask word bit e =
    record {
      each = λ b lt.
          rw e
          (ap (λ n. n == 1) (bit_at_and mask word b) ∙ with_one (bit_at mask b) (bit_at word b) (bit_at-lt mask b) (bit_at-lt word b));
    }

pub cut_zero : (mask word : ℕ) (bit : Bool) → word < 2 ^ 64 → bit ≡ false → IsCut mask word bit (bit_and mask (18446744073709551615 - word))
cut_zero mask word bit small e =
    record {
      each = λ b lt.
          rw e
          (ap (λ n. n == 1) (bit_at_and mask (18446744073709551615 - word) b ∙ ap (min (bit_at mask b)) (bit_at_not w64 word b small lt))
          ∙ with_zero (bit_at mask b) (bit_at word b) (bit_at-lt mask b) (bit_at-lt word b));
    }

pub nothing : (b : ℕ) → has 0 b ≡ false
nothing b = ap (λ n. n == 1) (bit_at-zero b)

has_or : (x y b : ℕ) → has (bit_or x y) b ≡ (has x b || has y b)
has_or x y b = ap (λ n. n == 1) (bit_at_or x y b) ∙ either (bit_at x b) (bit_at y b) (bit_at-lt x b) (bit_at-lt y b)

-- ---- what is left of a mask

and_all : (a : Bool) → (a && true) ≡ a
and_all true = refl
and_all false = refl

and_none : (a : Bool) → (a && false) ≡ false
and_none true = refl
and_none false = refl

and_grouped : (a b c : Bool) → (a && (b && c)) ≡ ((a && b) && c)
and_grouped true b c = refl
and_grouped false b c = refl

and_either : (a b c : Bool) → ((a && b) || (a && c)) ≡ (a && (b || c))
and_either true b c = refl
and_either false b c = refl

-- the mask agrees exactly where what is left of it agrees at the places that are left
pub record Leaves (wide : ℕ) (planes : List ℕ) (word : ℕ) (places rest : List ℕ) (s : List Bool) (mask left : ℕ) : Type 0 where
  pub each : (b : ℕ) → b < 64 → (has mask b && shows wide planes word b places s) ≡ (has left b && shows wide planes word b rest s)

pub all_left : (wide : ℕ) (planes : List ℕ) (word : ℕ) (places : List ℕ) (s : List Bool) (mask : ℕ) → Leaves wide planes word places places s mask mask
all_left wide planes word places s mask = record { each = λ b lt. refl }

pub one_less : (wide : ℕ) (planes : List ℕ) (word : ℕ) (places : List ℕ) (s : List Bool) (mask left new i place shown : ℕ) (bit : Bool) → i < length places →
    place ≡ get_or places i place → shown ≡ get_or planes (place * wide + word) 0 → bit ≡ get_or s place false →
    Leaves wide planes word places (drop i places) s mask left →
    IsCut left shown bit new → Leaves wide planes word places (drop (i + 1) places) s mask new
one_less wide planes word places s mask left new i place shown bit lt e f g old cut =
    record {
      each = λ b small.
          let front : drop i places ≡ place ∷ drop (i + 1) places = drop_more places i place lt ∙ ap (λ p. p ∷ drop (i + 1) places) (sym e) in
          let here : beq (has (get_or planes (place * wide + word) 0) b) (get_or s place false) ≡ beq (has shown b) bit =
          ap₂ (λ w t. beq (has w b) t) (sym f) (sym g) in
          let tail : Bool = shows wide planes word b (drop (i + 1) places) s in
          old.each b small
          ∙ (ap (λ ps. has left b && shows wide planes word b ps s) front
          ∙ (ap (λ t. has left b && (t && tail)) here
          ∙ (and_grouped (has left b) (beq (has shown b) bit) tail ∙ ap (λ t. t && tail) (sym (cut.each b small)))));
    }

pub none_left : (wide : ℕ) (planes : List ℕ) (word : ℕ) (places rest : List ℕ) (s : List Bool) (mask left : ℕ) → left ≡ 0 →
    Leaves wide planes word places rest s mask left → Agrees wide planes word places s mask 0
none_left wide planes word places rest s mask left e h =
    record {
      each = λ b lt.
          nothing b ∙ sym (h.each b lt ∙ ap (λ t. t && shows wide planes word b rest s) (ap (λ n. has n b) e ∙ nothing b));
    }

pub agreed : (wide : ℕ) (planes : List ℕ) (word : ℕ) (places : List ℕ) (s : List Bool) (mask left i : ℕ) → length places ≤ i →
    Leaves wide planes word places (drop i places) s mask left → Agrees wide planes word places s mask left
agreed wide planes word places s mask left i le h =
    record {
      each = λ b lt.
          sym
          (h.each b lt
          ∙ (ap (λ ps. has left b && shows wide planes word b ps s) (drop_all i places le) ∙ and_all (has left b)));
    }

-- the word of a plane lies in the planes
pub word_fits : (place wide word flops size : ℕ) → place < flops → word < wide → flops * wide ≤ size → place * wide + word < size
word_fits place wide word flops size lt small room = omega (arith, row_fits place wide flops wide lt (omega arith), small, room)

-- ---- one of some states

pub none_joined : (wide : ℕ) (planes : List ℕ) (word : ℕ) (places : List ℕ) (mask : ℕ) → IsUnion wide planes word places [] mask 0
none_joined wide planes word places mask = record { each = λ b lt. nothing b ∙ sym (and_none (has mask b)) }

any_more : {X : Type 0} (p : List Bool → Bool) (f : X → List Bool) (xs : List X) (i : ℕ) (x : X) → i < length xs → x ≡ get_or xs i x →
    list_any p (map f (take (i + 1) xs)) ≡ (list_any p (map f (take i xs)) || p (f x))
any_more {X} p f xs i x lt e = let step : i + 1 ≡ suc i = omega arith in ap (λ n. list_any p (map f (take n xs))) step ∙ by xs i lt e
  where
    last : (t : Bool) → (t || false) ≡ t
    last true = refl
    last false = refl

    turned : (a b c : Bool) → (a || (b || c)) ≡ ((a || b) || c)
    turned true b c = refl
    turned false b c = refl

    by : (ys : List X) (j : ℕ) → j < length ys → x ≡ get_or ys j x → list_any p (map f (take (suc j) ys)) ≡ (list_any p (map f (take j ys)) || p (f x))
    by [] j h q = absurd (omega (arith, h))
    by (y ∷ ys) zero h q = last (p (f y)) ∙ ap (λ z. p (f z)) (sym q)
    by (y ∷ ys) (suc j) h q =
        ap (λ t. p (f y) || t) (by ys j (omega (arith, h)) q) ∙ turned (p (f y)) (list_any p (map f (take j ys))) (p (f x))

pub one_more_joined : {X : Type 0} (f : X → List Bool) (wide : ℕ) (planes : List ℕ) (word : ℕ) (places : List ℕ) (xs : List X) (i : ℕ) (x : X)
    (s : List Bool) (mask old more : ℕ) → i < length xs → x ≡ get_or xs i x → s ≡ f x →
    IsUnion wide planes word places (map f (take i xs)) mask old → Agrees wide planes word places s mask more →
    IsUnion wide planes word places (map f (take (i + 1) xs)) mask (bit_or old more)
one_more_joined f wide planes word places xs i x s mask old more lt e same before here =
    record {
      each = λ b small.
          let test : List Bool → Bool = shows wide planes word b places in
          has_or old more b
          ∙ (ap₂ (λ t u. t || u) (before.each b small) (here.each b small)
          ∙ (and_either (has mask b) (list_any test (map f (take i xs))) (test s)
          ∙ ap (λ t. has mask b && t) (ap (λ u. list_any test (map f (take i xs)) || test u) same ∙ sym (any_more test f xs i x lt e))));
    }

pub all_joined : {X : Type 0} (f : X → List Bool) (wide : ℕ) (planes : List ℕ) (word : ℕ) (places : List ℕ) (xs : List X) (i mask hits : ℕ) →
    length xs ≤ i → IsUnion wide planes word places (map f (take i xs)) mask hits → IsUnion wide planes word places (map f xs) mask hits
all_joined {X} f wide planes word places xs i mask hits le h =
    let P : List X → Type 0 = λ ys. IsUnion wide planes word places (map f ys) mask hits in
    subst P (take_all i xs le) h
