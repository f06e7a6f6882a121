-- The bits of a signature, item by item.
use Rattle.std.proofs.Common.{◌≡◌, ℕ, suc, zero, ◌<◌, ◌≤◌, ◌+◌, Bool, false, List, [], ◌∷◌, ◌++◌, length, map, take, set, get_or, arith, ap, sym, ◌∙◌}
use Rattle.std.proofs.Common.{◌⊎◌, inl, inr, Some, add-one}
use Rattle.std.specs.Prelude.{slice_get}
use Rattle.std.proofs.lemmas.List.{get_or-set_same, get_or-set_other, length-map, ext_get_or, take_all}
use Rattle.std.proofs.Math.Nat.{eq-or-lt_of_le}
use Rattle.bs_scan.specs.Choice.{Chosen}
use Rattle.bs_scan.specs.Signature.{parity_of, signature}

mapped_at : {X : Type 0} (f : X → Bool) (xs : List X) (i : ℕ) (x : X) → slice_get xs i ≡ Some x → get_or (map f xs) i false ≡ f x
mapped_at f [] i x e = absurd cc
mapped_at f (y ∷ ys) zero x e = let same : y ≡ x = cc in ap f same
mapped_at f (y ∷ ys) (suc i) x e = mapped_at f ys i x e

order_cases : (a b : ℕ) → a ≤ b → (a ≡ b) ⊎ (a < b)
order_cases a b le = eq-or-lt_of_le le

-- one bit more is written
pub bit_step : (choice : Chosen) (state bits : List Bool) (i : ℕ) (item : List ℕ) → i < length bits → slice_get choice.items i ≡ Some item →
    ((k : ℕ) → k < i → get_or bits k false ≡ get_or (signature choice state) k false) → (k : ℕ) → k < i + 1 →
    get_or (set bits i (parity_of state item)) k false ≡ get_or (signature choice state) k false
bit_step choice state bits i item lt e so k h = by (order_cases k i (omega arith))
  where
    by : (k ≡ i) ⊎ (k < i) → get_or (set bits i (parity_of state item)) k false ≡ get_or (signature choice state) k false
    by (inl same) = rw same (get_or-set_same bits i (parity_of state item) false lt ∙ sym (mapped_at (parity_of state) choice.items i item e))
    by (inr less) = get_or-set_other bits i k (parity_of state item) false (λ (q : k ≡ i). omega (arith, q, less)) ∙ so k less

-- all bits are written
pub bits_written : (choice : Chosen) (state bits : List Bool) (i : ℕ) → length bits ≡ length choice.items → length choice.items ≤ i →
    ((k : ℕ) → k < i → get_or bits k false ≡ get_or (signature choice state) k false) → bits ≡ signature choice state
bits_written choice state bits i same le so =
    ext_get_or false bits (signature choice state) (same ∙ sym (length-map choice.items (parity_of state))) (λ k lt. so k (omega (arith, lt, same, le)))

mapped_more : {X : Type 0} (f : X → Bool) (xs : List X) (i : ℕ) (x : X) → slice_get xs i ≡ Some x → take (suc i) (map f xs) ≡ take i (map f xs) ++ f x ∷ []
mapped_more f [] i x e = absurd cc
mapped_more f (y ∷ ys) zero x e = let same : y ≡ x = cc in ap (λ z. f z ∷ []) same
mapped_more f (y ∷ ys) (suc i) x e = ap (λ t. f y ∷ t) (mapped_more f ys i x e)

-- one bit more is pushed
pub bit_pushed : (choice : Chosen) (state bits : List Bool) (i : ℕ) (item : List ℕ) → slice_get choice.items i ≡ Some item →
    bits ≡ take i (signature choice state) →
    bits ++ parity_of state item ∷ [] ≡ take (i + 1) (signature choice state)
bit_pushed choice state bits i item e so = rw add-one (ap (λ t. t ++ parity_of state item ∷ []) so ∙ sym (mapped_more (parity_of state) choice.items i item e))

pub all_pushed : (choice : Chosen) (state bits : List Bool) (i : ℕ) → length choice.items ≤ i → bits ≡ take i (signature choice state) →
    bits ≡ signature choice state
all_pushed choice state bits i le so = so ∙ take_all i (signature choice state) (omega (arith, le, length-map choice.items (parity_of state)))
