-- The lines of the first flip-flops that differ.
use Rattle.std.proofs.Common.{◌≡◌, ℕ, ◌<◌, ◌≤◌, ◌+◌, Bool, true, false, cond, nat_lt, List, [], ◌∷◌, ◌++◌, length, map, take, filter, get_or, refl, ap, sym, ◌∙◌, arith, append_assoc, append-nil, take_all, length-append}
use Rattle.std.specs.Borrow.{Bor}
use Rattle.std.specs.List.{flat_map, range_with_len}
use Rattle.std.proofs.lemmas.Bool.{cond-true, cond-false, ltb-true, ltb-false}
use Rattle.std.proofs.lemmas.Grind.{flat_map-append}
use Rattle.std.proofs.lemmas.List.{get_or-map, length_push, take-append-le}
use Rattle.std.proofs.lemmas.List.Elements.{filter-append}
use Rattle.bs_bits.proofs.RangeLemmas.{range_push}
use Rattle.bs_scan.specs.declared.seen.Seen.{Seen}
use Rattle.bs_inspect_near.specs.Distance.{differing, differs}
use Rattle.bs_inspect_near.specs.Counters.{one_if}
use Rattle.bs_inspect_near.specs.Told.{told_piece}
use Rattle.bs_inspect_near.specs.declared.text.TheConstants.{MAX_PLACES}
use Rattle.bs_inspect_near.proofs.CounterLemmas.{one_small}

-- ---- a line

pub key_is : (keys : List (Bor (List ℕ))) (place : ℕ) (key : Bor (List ℕ)) → place < length keys → key ≡ get_or keys place key →
    key.now ≡ get_or (map (λ s. s.now) keys) place []
key_is keys place key lt at =
    ap (λ (s : Bor (List ℕ)). s.now) at ∙ sym (get_or-map (λ (s : Bor (List ℕ)). s.now) keys place key [] lt)

-- ---- the first lines

abbrev picked : (ℕ → Bool) → ℕ → List ℕ
picked p i = filter p (range_with_len 0 i)

picked_more : (p : ℕ → Bool) (i : ℕ) (b : Bool) → b ≡ p i → picked p (i + 1) ≡ picked p i ++ cond b (i ∷ []) []
picked_more p i b is =
    ap (filter p) (range_push i)
    ∙ (filter-append p (range_with_len 0 i) (i ∷ []) ∙ ap (λ (t : Bool). picked p i ++ cond t (i ∷ []) []) (sym is))

cut : (line_of : ℕ → List ℕ) (xs : List ℕ) (x : ℕ) (b : Bool) →
    flat_map line_of (take MAX_PLACES (xs ++ cond b (x ∷ []) [])) ≡ flat_map line_of (take MAX_PLACES xs) ++ told_piece line_of b (length xs) x
cut line_of xs x false =
    ap (λ (ys : List ℕ). flat_map line_of (take MAX_PLACES ys)) (append-nil xs) ∙ sym (append-nil (flat_map line_of (take MAX_PLACES xs)))
cut line_of xs x true = by (nat_lt (length xs) MAX_PLACES) refl
  where
    by : (t : Bool) → nat_lt (length xs) MAX_PLACES ≡ t →
        flat_map line_of (take MAX_PLACES (xs ++ x ∷ [])) ≡ flat_map line_of (take MAX_PLACES xs) ++ cond (nat_lt (length xs) MAX_PLACES) (line_of x) []
    by true e =
        ap (flat_map line_of)
        (take_all MAX_PLACES (xs ++ x ∷ []) (omega (arith, length_push xs x, ltb-true (length xs) MAX_PLACES e)))
        ∙ (flat_map-append line_of xs (x ∷ [])
        ∙ ((λ i. flat_map line_of (sym (take_all MAX_PLACES xs (omega (arith, ltb-true (length xs) MAX_PLACES e))) i) ++ append-nil (line_of x) i)
        ∙ ap (λ (l : List ℕ). flat_map line_of (take MAX_PLACES xs) ++ l) (sym (cond-true (nat_lt (length xs) MAX_PLACES) (line_of x) [] e))))
    by false e =
        ap (flat_map line_of) (take-append-le MAX_PLACES xs (x ∷ []) (ltb-false (length xs) MAX_PLACES e))
        ∙ (sym (append-nil (flat_map line_of (take MAX_PLACES xs)))
        ∙ ap (λ (l : List ℕ). flat_map line_of (take MAX_PLACES xs) ++ l) (sym (cond-false (nat_lt (length xs) MAX_PLACES) (line_of x) [] e)))

-- so many of the first flip-flops differ, and the first of them have their lines
pub record ToldSo (line_of : ℕ → List ℕ) (p : ℕ → Bool) (i told : ℕ) (old now : List ℕ) : Type 0 where
  pub count : told ≡ length (filter p (range_with_len 0 i))
  pub few : told ≤ i
  pub text : now ≡ old ++ flat_map line_of (take MAX_PLACES (filter p (range_with_len 0 i)))

pub told_begin : (line_of : ℕ → List ℕ) (p : ℕ → Bool) (old : List ℕ) → ToldSo line_of p 0 0 old old
told_begin line_of p old = record { count = refl; few = omega arith; text = sym (append-nil old) }

one_more : (xs : List ℕ) (x : ℕ) (b : Bool) → length (xs ++ cond b (x ∷ []) []) ≡ length xs + one_if b
one_more xs x true = length_push xs x
one_more xs x false = length-append xs []

pub told_more : (line_of : ℕ → List ℕ) (p : ℕ → Bool) (i told r : ℕ) (b : Bool) (old text after : List ℕ) → b ≡ p i → r ≡ one_if b →
    after ≡ text ++ told_piece line_of b told i → ToldSo line_of p i told old text → ToldSo line_of p (i + 1) (told + r) old after
told_more line_of p i told r b old text after is one goes so = record {
  count = (λ j. so.count j + one j) ∙ sym (ap length (picked_more p i b is) ∙ one_more (picked p i) i b);
  few = omega (arith, so.few, one, one_small b);
  text =
      goes
      ∙ ((λ j. so.text j ++ told_piece line_of b (so.count j) i)
      ∙ (append_assoc old (flat_map line_of (take MAX_PLACES (picked p i))) (told_piece line_of b (length (picked p i)) i)
      ∙ ap (λ (l : List ℕ). old ++ l)
      (sym (ap (λ (ys : List ℕ). flat_map line_of (take MAX_PLACES ys)) (picked_more p i b is) ∙ cut line_of (picked p i) i b))));
}

pub told_all : (line_of : ℕ → List ℕ) (recorded : List Bool) (seen : Seen) (i told : ℕ) (old text : List ℕ) → length seen.bits ≤ i → i ≤ length seen.bits →
    ToldSo line_of (differs recorded seen) i told old text → text ≡ old ++ flat_map line_of (take MAX_PLACES (differing recorded seen))
told_all line_of recorded seen i told old text le ge so =
    let e : i ≡ length seen.bits = omega (arith, le, ge) in
    so.text ∙ ap (λ (n : ℕ). old ++ flat_map line_of (take MAX_PLACES (filter (differs recorded seen) (range_with_len 0 n)))) e
