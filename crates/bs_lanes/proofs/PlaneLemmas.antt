-- A lane of planes that are read and written whole.
use Rattle.std.proofs.Common.{◌≡◌, ◌≢◌, ℕ, suc, zero, ◌<◌, ◌≤◌, ◌+◌, ◌-◌, ◌*◌, ◌/◌, ◌%◌, ◌^◌, Bool, true, false, not, ◌&&◌, ◌||◌, List, [], ◌∷◌, ◌++◌}
use Rattle.std.proofs.Common.{length, replicate, get_or, set, refl, arith, subst, ap, sym, ◌∙◌, ◌⊎◌, inl, inr, ⊎_elim, length-set, get_or-set_same}
use Rattle.std.proofs.Common.{get_or-set_other, min, max}
use Rattle.std.specs.Prelude.{◌==◌, nat_lt}
use Rattle.std.specs.Bool.{beq}
use Rattle.std.specs.Int.{bit_at, w64}
use Rattle.std.specs.Int.Bits.{bit_and, bit_or, bit_xor}
use Rattle.std.specs.Simd.Lanes.{zip2, chunk, put_chunk}
use Rattle.std.proofs.lemmas.Bool.{cases_eq, cases_lt, le-ltb, lt-ltb}
use Rattle.std.proofs.lemmas.List.{ext_get_or, get_or_past, length-replicate, get_or-replicate}
use Rattle.std.proofs.lemmas.List.FromFn.{length-map-range_with_len, get_or-map-range_with_len, map-range_with_len_more}
use Rattle.std.proofs.lemmas.Nat.{row_fits}
use Rattle.std.proofs.lemmas.Nat.Bits.{shr_and_one, bit_at_and, bit_at_or, bit_at_xor, bit_at-lt, bit_at_ones, bit_at-zero, bit_at_set_same}
use Rattle.std.proofs.lemmas.Nat.Bits.{bit_at_set_other, bit_at_clear_same, bit_at_clear_other}
use Rattle.std.proofs.lemmas.Simd.{get_or-chunk, get_or-put_chunk_below, get_or-put_chunk_at, get_or-put_chunk_above, length-chunk, get_or-zip2, length-zip2}
use Rattle.bs_stim.specs.Packing.{bit_in, HasPut}
use Rattle.bs_lanes.specs.Planes.{bit_place, lane, IsPlane, IsPadded}

pub length_lane : (wide count : ℕ) (words : List ℕ) (r : ℕ) → length (lane wide count words r) ≡ count
length_lane wide count words r = length-map-range_with_len (λ plane. bit_in words (bit_place wide plane r)) 0 count

pub lane_at : (wide count : ℕ) (words : List ℕ) (r plane : ℕ) → plane < count →
    get_or (lane wide count words r) plane false ≡ bit_in words (bit_place wide plane r)
lane_at wide count words r plane lt =
    get_or-map-range_with_len (λ plane. bit_in words (bit_place wide plane r)) 0 count plane plane false lt (omega arith)

-- one plane more
pub lane_more : (wide count : ℕ) (words : List ℕ) (r : ℕ) →
    lane wide (count + 1) words r ≡ lane wide count words r ++ bit_in words (bit_place wide count r) ∷ []
lane_more wide count words r = map-range_with_len_more (λ plane. bit_in words (bit_place wide plane r)) 0 count count (omega arith)

-- ---- the words that a lane reads

word_of_place : (start r : ℕ) → (start * 64 + r) / 64 ≡ start + r / 64
word_of_place start r = omega arith

bit_of_place : (start r : ℕ) → (start * 64 + r) % 64 ≡ r % 64
bit_of_place start r = omega arith

-- a bit from some word on
pub bit_from : (words : List ℕ) (start r : ℕ) → bit_in words (start * 64 + r) ≡ (bit_at (get_or words (start + r / 64) 0) (r % 64) == 1)
bit_from words start r =
    ap (λ p. bit_at (get_or words p 0) ((start * 64 + r) % 64) == 1) (word_of_place start r)
    ∙ ap (λ b. bit_at (get_or words (start + r / 64) 0) b == 1) (bit_of_place start r)

pub bit_read_from : (words : List ℕ) (start r : ℕ) → (bit_and (get_or words (start + r / 64) 0 / 2 ^ (r % 64)) 1 == 1) ≡ bit_in words (start * 64 + r)
bit_read_from words start r = ap (λ n. n == 1) (shr_and_one (get_or words (start + r / 64) 0) (r % 64)) ∙ sym (bit_from words start r)

-- a plane shows in each lane the bit that stands there
pub bit_in_chunk : (wide plane r : ℕ) (words : List ℕ) → r < 64 * wide → bit_in (chunk (plane * wide) wide words) r ≡ bit_in words (bit_place wide plane r)
bit_in_chunk wide plane r words lt =
    ap (λ w. bit_at w (r % 64) == 1) (get_or-chunk (plane * wide) wide words (r / 64) 0 (omega (arith, lt)))
    ∙ sym (bit_from words (plane * wide) r)

-- two planes lie apart
apart_below : (wide i j : ℕ) → j < i → j * wide + wide ≤ i * wide
apart_below wide i j lt = row_fits j wide i wide lt (omega arith)

put_same : (wide i r : ℕ) (words p : List ℕ) → length p ≡ wide → r < 64 * wide → i * wide + wide ≤ length words →
    bit_in (put_chunk (i * wide) words p) (bit_place wide i r) ≡ bit_in p r
put_same wide i r words p long lt room =
    bit_from (put_chunk (i * wide) words p) (i * wide) r
    ∙ ap (λ w. bit_at w (r % 64) == 1) (get_or-put_chunk_at (i * wide) words p (r / 64) 0 (omega (arith, lt, long)) (omega (arith, long, room)))

put_other : (wide i j r : ℕ) (words p : List ℕ) → length p ≡ wide → r < 64 * wide → j ≢ i →
    bit_in (put_chunk (i * wide) words p) (bit_place wide j r) ≡ bit_in words (bit_place wide j r)
put_other wide i j r words p long lt other =
    bit_from (put_chunk (i * wide) words p) (j * wide) r
    ∙ (ap (λ w. bit_at w (r % 64) == 1) (by (cases_lt j i))
    ∙ sym (bit_from words (j * wide) r))
  where
    by : (j < i) ⊎ (i ≤ j) → get_or (put_chunk (i * wide) words p) (j * wide + r / 64) 0 ≡ get_or words (j * wide + r / 64) 0
    by (inl below) = get_or-put_chunk_below (i * wide) words p (j * wide + r / 64) 0 (omega (arith, apart_below wide i j below, lt))
    by (inr above) = get_or-put_chunk_above (i * wide) words p (j * wide + r / 64) 0 (omega (arith, apart_below wide j i (omega (arith, above, other)), long))

-- a plane that is written whole is one bit that is written in each lane
pub lane_put : (wide count i r : ℕ) (words p : List ℕ) → length p ≡ wide → r < 64 * wide → i < count → count * wide ≤ length words →
    lane wide count (put_chunk (i * wide) words p) r ≡ set (lane wide count words r) i (bit_in p r)
lane_put wide count i r words p long lt here room =
    let old : List Bool = lane wide count words r in
    let new : List Bool = lane wide count (put_chunk (i * wide) words p) r in
    let fits : i * wide + wide ≤ length words = omega (arith, row_fits i wide count wide here (omega arith), room) in
    ext_get_or false new (set old i (bit_in p r)) (length_lane wide count _ r ∙ sym (length-set old i (bit_in p r) ∙ length_lane wide count words r))
    (λ j small.
    let j_here : j < count = omega (arith, small, length_lane wide count (put_chunk (i * wide) words p) r) in
    lane_at wide count (put_chunk (i * wide) words p) r j j_here
    ∙ ⊎_elim
    (λ (e : j ≡ i).
    let P : ℕ → Type 0 = λ k. bit_in (put_chunk (i * wide) words p) (bit_place wide k r) ≡ get_or (set old i (bit_in p r)) k false in
    subst P (sym e) (put_same wide i r words p long lt fits ∙ sym (get_or-set_same old i (bit_in p r) false
    (omega (arith, here, length_lane wide count words r)))))
    (λ (other : j ≢ i).
    put_other wide i j r words p long lt other ∙ (sym (lane_at wide count words r j j_here) ∙ sym (get_or-set_other old i j (bit_in p r) false other)))
    (cases_eq j i))

pub bit_in_zeros : (wide r : ℕ) → bit_in (replicate wide 0) r ≡ false
bit_in_zeros wide r =
    ⊎_elim
    (λ (lt : r / 64 < wide). ap (λ w. bit_at w (r % 64) == 1) (get_or-replicate wide (r / 64) 0 0 lt) ∙ ap (λ n. n == 1) (bit_at-zero (r % 64)))
    (λ (ge : wide ≤ r / 64).
    ap (λ w. bit_at w (r % 64) == 1) (get_or_past (replicate wide 0) (r / 64) 0 (omega (arith, ge, length-replicate {A = ℕ} wide 0)))
    ∙ ap (λ n. n == 1) (bit_at-zero (r % 64)))
    (cases_lt (r / 64) wide)

-- words of zeros show zeros in each lane
pub lane_zeros : (wide count n r : ℕ) → lane wide count (replicate n 0) r ≡ replicate count false
lane_zeros wide count n r =
    ext_get_or false (lane wide count (replicate n 0) r) (replicate count false) (length_lane wide count (replicate n 0) r ∙ sym (length-replicate count false))
    (λ i small.
    let lt : i < count = omega (arith, small, length_lane wide count (replicate n 0) r) in
    lane_at wide count (replicate n 0) r i lt ∙ (bit_in_zeros n (bit_place wide i r) ∙ sym (get_or-replicate count i false false lt)))

-- ---- operators

bits_and : (a b : ℕ) → a < 2 → b < 2 → (min a b == 1) ≡ ((a == 1) && (b == 1))
bits_and zero zero h k = refl
bits_and zero (suc zero) h k = refl
bits_and (suc zero) zero h k = refl
bits_and (suc zero) (suc zero) h k = refl
bits_and zero (suc (suc b)) h k = absurd (omega (arith, k))
bits_and (suc zero) (suc (suc b)) h k = absurd (omega (arith, k))
bits_and (suc (suc a)) b h k = absurd (omega (arith, h))

bits_or : (a b : ℕ) → a < 2 → b < 2 → (max a b == 1) ≡ ((a == 1) || (b == 1))
bits_or zero zero h k = refl
bits_or zero (suc zero) h k = refl
bits_or (suc zero) zero h k = refl
bits_or (suc zero) (suc zero) h k = refl
bits_or zero (suc (suc b)) h k = absurd (omega (arith, k))
bits_or (suc zero) (suc (suc b)) h k = absurd (omega (arith, k))
bits_or (suc (suc a)) b h k = absurd (omega (arith, h))

bits_xor : (a b : ℕ) → a < 2 → b < 2 → ((a + b) % 2 == 1) ≡ not (beq (a == 1) (b == 1))
bits_xor zero zero h k = refl
bits_xor zero (suc zero) h k = refl
bits_xor (suc zero) zero h k = refl
bits_xor (suc zero) (suc zero) h k = refl
bits_xor zero (suc (suc b)) h k = absurd (omega (arith, k))
bits_xor (suc zero) (suc (suc b)) h k = absurd (omega (arith, k))
bits_xor (suc (suc a)) b h k = absurd (omega (arith, h))

zip_word : (f : ℕ → ℕ → ℕ) (xs ys : List ℕ) (i : ℕ) → f 0 0 ≡ 0 → length xs ≡ length ys → get_or (zip2 f xs ys) i 0 ≡ f (get_or xs i 0) (get_or ys i 0)
zip_word f xs ys i z same =
    ⊎_elim
    (λ (lt : i < length xs). get_or-zip2 f xs ys i 0 0 0 lt (omega (arith, lt, same)))
    (λ (ge : length xs ≤ i).
    get_or_past (zip2 f xs ys) i 0 (omega (arith, ge, length-zip2 f xs ys same))
    ∙ (sym z ∙ (ap (λ a. f a 0) (sym (get_or_past xs i 0 ge)) ∙ ap (f (get_or xs i 0)) (sym (get_or_past ys i 0 (omega (arith, ge, same)))))))
    (cases_lt i (length xs))

pub bit_in_and : (xs ys : List ℕ) (r : ℕ) → length xs ≡ length ys → bit_in (zip2 bit_and xs ys) r ≡ (bit_in xs r && bit_in ys r)
bit_in_and xs ys r same =
    let x = get_or xs (r / 64) 0 in
    let y = get_or ys (r / 64) 0 in
    ap (λ w. bit_at w (r % 64) == 1) (zip_word bit_and xs ys (r / 64) refl same)
    ∙ (ap (λ n. n == 1) (bit_at_and x y (r % 64))
    ∙ bits_and (bit_at x (r % 64)) (bit_at y (r % 64)) (bit_at-lt x (r % 64)) (bit_at-lt y (r % 64)))

pub bit_in_or : (xs ys : List ℕ) (r : ℕ) → length xs ≡ length ys → bit_in (zip2 bit_or xs ys) r ≡ (bit_in xs r || bit_in ys r)
bit_in_or xs ys r same =
    let x = get_or xs (r / 64) 0 in
    let y = get_or ys (r / 64) 0 in
    ap (λ w. bit_at w (r % 64) == 1) (zip_word bit_or xs ys (r / 64) refl same)
    ∙ (ap (λ n. n == 1) (bit_at_or x y (r % 64))
    ∙ bits_or (bit_at x (r % 64)) (bit_at y (r % 64)) (bit_at-lt x (r % 64)) (bit_at-lt y (r % 64)))

pub bit_in_xor : (xs ys : List ℕ) (r : ℕ) → length xs ≡ length ys → bit_in (zip2 bit_xor xs ys) r ≡ not (beq (bit_in xs r) (bit_in ys r))
bit_in_xor xs ys r same =
    let x = get_or xs (r / 64) 0 in
    let y = get_or ys (r / 64) 0 in
    ap (λ w. bit_at w (r % 64) == 1) (zip_word bit_xor xs ys (r / 64) refl same)
    ∙ (ap (λ n. n == 1) (bit_at_xor x y (r % 64))
    ∙ bits_xor (bit_at x (r % 64)) (bit_at y (r % 64)) (bit_at-lt x (r % 64)) (bit_at-lt y (r % 64)))

-- a word of ones
abbrev pub ones : ℕ
ones = 18446744073709551615

pub bit_in_ones : (wide r : ℕ) → r < 64 * wide → bit_in (replicate wide ones) r ≡ true
bit_in_ones wide r lt =
    ap (λ w. bit_at w (r % 64) == 1) (get_or-replicate wide (r / 64) ones 0 (omega (arith, lt)))
    ∙ ap (λ n. n == 1) (bit_at_ones 64 (r % 64) (omega arith))

pub bit_in_not : (wide : ℕ) (xs : List ℕ) (r : ℕ) → length xs ≡ wide → r < 64 * wide → bit_in (zip2 bit_xor xs (replicate wide ones)) r ≡ not (bit_in xs r)
bit_in_not wide xs r long lt =
    bit_in_xor xs (replicate wide ones) r (long ∙ sym (length-replicate wide ones))
    ∙ (ap (λ b. not (beq (bit_in xs r) b)) (bit_in_ones wide r lt) ∙ same (bit_in xs r))
  where
    same : (b : Bool) → not (beq b true) ≡ not b
    same true = refl
    same false = refl

-- ---- one bit of one run

same_place : (a b : ℕ) → a / 64 ≡ b / 64 → a % 64 ≡ b % 64 → a ≡ b
same_place a b q r = omega (arith, q, r)

-- a word that differs from the old one in one bit
changed : (words : List ℕ) (at new : ℕ) (bit : Bool) → at < 64 * length words → (bit_at new (at % 64) == 1) ≡ bit →
    ((i : ℕ) → i < 64 → i ≢ at % 64 → bit_at new i ≡ bit_at (get_or words (at / 64) 0) i) → HasPut at bit words (set words (at / 64) new)
changed words at new bit h here others =
    let within : at / 64 < length words = omega (arith, h) in
    record {
      size = length-set words (at / 64) new;
      here = ap (λ w. bit_at w (at % 64) == 1) (get_or-set_same words (at / 64) new 0 within) ∙ here;
      others =
          λ place other.
          ⊎_elim
          (λ (q : place / 64 ≡ at / 64).
          let apart : place % 64 ≢ at % 64 = λ r. other (same_place place at q r) in
          ap (λ k. bit_at (get_or (set words (at / 64) new) k 0) (place % 64) == 1) q
          ∙ (ap (λ w. bit_at w (place % 64) == 1) (get_or-set_same words (at / 64) new 0 within)
          ∙ (ap (λ n. n == 1) (others (place % 64) (omega arith) apart)
          ∙ ap (λ k. bit_at (get_or words k 0) (place % 64) == 1) (sym q))))
          (λ (q : place / 64 ≡ at / 64 → ⊥). ap (λ w. bit_at w (place % 64) == 1) (get_or-set_other words (at / 64) (place / 64) new 0 q))
          (cases_eq (place / 64) (at / 64));
    }

put_at : (words : List ℕ) (at low new : ℕ) (bit : Bool) → at < length words → low < 64 → (bit_at new low == 1) ≡ bit →
    ((i : ℕ) → i < 64 → i ≢ low → bit_at new i ≡ bit_at (get_or words at 0) i) → HasPut (at * 64 + low) bit words (set words at new)
put_at words at low new bit h small here others =
    let q : (at * 64 + low) / 64 ≡ at = omega (arith, small) in
    let r : (at * 64 + low) % 64 ≡ low = omega (arith, small) in
    let P : ℕ → Type 0 = λ k. HasPut (at * 64 + low) bit words (set words k new) in
    subst P q
    (changed words (at * 64 + low) new bit (omega (arith, h, small)) (ap (λ k. bit_at new k == 1) r ∙ here)
    (λ i lt other. others i lt (λ s. other (s ∙ sym r)) ∙ ap (λ k. bit_at (get_or words k 0) i) (sym q)))

pub has_put_bit : (words : List ℕ) (at low : ℕ) → at < length words → low < 64 →
    HasPut (at * 64 + low) true words (set words at (bit_or (get_or words at 0) (1 * 2 ^ low % 18446744073709551616)))
has_put_bit words at low h small =
    let word = get_or words at 0 in
    put_at words at low _ true h small (ap (λ n. n == 1) (bit_at_set_same w64 word low small)) (λ i lt other. bit_at_set_other w64 word low small i other)

pub has_cut_bit : (words : List ℕ) (at low : ℕ) → at < length words → low < 64 →
    HasPut (at * 64 + low) false words (set words at (bit_and (get_or words at 0) (18446744073709551615 - 1 * 2 ^ low % 18446744073709551616)))
has_cut_bit words at low h small =
    let word = get_or words at 0 in
    put_at words at low _ false h small (ap (λ n. n == 1) (bit_at_clear_same w64 word low small))
    (λ i lt other. bit_at_clear_other w64 word low small i lt other)

-- ---- planes

pub chunk_is_plane : (wide plane : ℕ) (words : List ℕ) → plane * wide + wide ≤ length words →
    IsPlane wide (chunk (plane * wide) wide words) (λ r. bit_in words (bit_place wide plane r))
chunk_is_plane wide plane words room =
    record { long = length-chunk (plane * wide) wide words room; each = λ r lt. bit_in_chunk wide plane r words lt }

pub not_is_plane : (wide : ℕ) (xs : List ℕ) → length xs ≡ wide → IsPlane wide (zip2 bit_xor xs (replicate wide 18446744073709551615)) (λ r. not (bit_in xs r))
not_is_plane wide xs long =
    record {
      long = length-zip2 bit_xor xs (replicate wide ones) (long ∙ sym (length-replicate wide ones)) ∙ long;
      each = λ r lt. bit_in_not wide xs r long lt;
    }

-- the planes of two operands, combined
pub and_is_plane : (wide : ℕ) (xs ys : List ℕ) (f g : ℕ → Bool) → IsPlane wide xs f → IsPlane wide ys g → IsPlane wide (zip2 bit_and xs ys) (λ r. f r && g r)
and_is_plane wide xs ys f g p q =
    let same = p.long ∙ sym q.long in
    record {
      long = length-zip2 bit_and xs ys same ∙ p.long;
      each = λ r lt. bit_in_and xs ys r same ∙ (ap (λ b. b && bit_in ys r) (p.each r lt) ∙ ap (λ b. f r && b) (q.each r lt));
    }

pub or_is_plane : (wide : ℕ) (xs ys : List ℕ) (f g : ℕ → Bool) → IsPlane wide xs f → IsPlane wide ys g → IsPlane wide (zip2 bit_or xs ys) (λ r. f r || g r)
or_is_plane wide xs ys f g p q =
    let same = p.long ∙ sym q.long in
    record {
      long = length-zip2 bit_or xs ys same ∙ p.long;
      each = λ r lt. bit_in_or xs ys r same ∙ (ap (λ b. b || bit_in ys r) (p.each r lt) ∙ ap (λ b. f r || b) (q.each r lt));
    }

pub xor_is_plane : (wide : ℕ) (xs ys : List ℕ) (f g : ℕ → Bool) → IsPlane wide xs f → IsPlane wide ys g →
    IsPlane wide (zip2 bit_xor xs ys) (λ r. not (beq (f r) (g r)))
xor_is_plane wide xs ys f g p q =
    let same = p.long ∙ sym q.long in
    record {
      long = length-zip2 bit_xor xs ys same ∙ p.long;
      each = λ r lt. bit_in_xor xs ys r same ∙ (ap (λ b. not (beq b (bit_in ys r))) (p.each r lt) ∙ ap (λ b. not (beq (f r) b)) (q.each r lt));
    }

pub ones_is_plane : (wide : ℕ) → IsPlane wide (replicate wide 18446744073709551615) (λ r. true)
ones_is_plane wide = record { long = length-replicate wide ones; each = λ r lt. bit_in_ones wide r lt }

pub zeros_is_plane : (wide : ℕ) → IsPlane wide (replicate wide 0) (λ r. false)
zeros_is_plane wide = record { long = length-replicate {A = ℕ} wide 0; each = λ r lt. bit_in_zeros wide r }

-- the complement of a plane
pub inverse_is_plane : (wide : ℕ) (xs ys : List ℕ) (f : ℕ → Bool) → IsPlane wide xs f → IsPlane wide ys (λ r. not (bit_in xs r)) →
    IsPlane wide ys (λ r. not (f r))
inverse_is_plane wide xs ys f p q =
    record { long = q.long; each = λ r lt. q.each r lt ∙ ap not (p.each r lt) }

-- the same bits in another form
pub same_plane : (wide : ℕ) (xs : List ℕ) (f g : ℕ → Bool) → ((r : ℕ) → f r ≡ g r) → IsPlane wide xs f → IsPlane wide xs g
same_plane wide xs f g same p = record { long = p.long; each = λ r lt. p.each r lt ∙ same r }

-- ---- a plane among zeros

pub none_padded : (words : List ℕ) (start : ℕ) → IsPadded words start 0 (0 ∷ 0 ∷ 0 ∷ 0 ∷ [])
none_padded words start =
    record { long = refl; copied = λ k lt. absurd (omega (arith, lt)); zeros = λ k le. none k }
  where
    none : (k : ℕ) → get_or {A = ℕ} (0 ∷ 0 ∷ 0 ∷ 0 ∷ []) k 0 ≡ 0
    none zero = refl
    none (suc zero) = refl
    none (suc (suc zero)) = refl
    none (suc (suc (suc zero))) = refl
    none (suc (suc (suc (suc k)))) = refl

pub one_padded : (words : List ℕ) (start i word : ℕ) (all : List ℕ) → i < 4 → word ≡ get_or words (start + i) 0 → IsPadded words start i all →
    IsPadded words start (i + 1) (set all i word)
one_padded words start i word all lt is h =
    record {
      long = length-set all i word ∙ h.long;
      copied =
          λ k small.
          ⊎_elim
          (λ (e : k ≡ i).
          let P : ℕ → Type 0 = λ j. get_or (set all i word) j 0 ≡ get_or words (start + j) 0 in
          subst P (sym e) (get_or-set_same all i word 0 (omega (arith, lt, h.long)) ∙ is))
          (λ (other : k ≢ i). get_or-set_other all i k word 0 other ∙ h.copied k (omega (arith, small, other)))
          (cases_eq k i);
      zeros = λ k le. get_or-set_other all i k word 0 (λ e. omega (arith, e, le)) ∙ h.zeros k (omega (arith, le));
    }

pub padded_is_plane : (wide plane : ℕ) (words all : List ℕ) → IsPadded words (plane * wide) wide all →
    IsPlane 4 all (λ r. nat_lt r (64 * wide) && bit_in words (bit_place wide plane r))
padded_is_plane wide plane words all h =
    record {
      long = h.long;
      each = λ r small. ⊎_elim (inside r) (beyond r) (cases_lt r (64 * wide));
    }
  where
    inside : (r : ℕ) → r < 64 * wide → bit_in all r ≡ (nat_lt r (64 * wide) && bit_in words (bit_place wide plane r))
    inside r lt =
        ap (λ w. bit_at w (r % 64) == 1) (h.copied (r / 64) (omega (arith, lt)))
        ∙ (sym (bit_from words (plane * wide) r)
        ∙ ap (λ b. b && bit_in words (bit_place wide plane r)) (sym (lt-ltb r (64 * wide) lt)))

    beyond : (r : ℕ) → 64 * wide ≤ r → bit_in all r ≡ (nat_lt r (64 * wide) && bit_in words (bit_place wide plane r))
    beyond r ge =
        ap (λ w. bit_at w (r % 64) == 1) (h.zeros (r / 64) (omega (arith, ge)))
        ∙ (ap (λ n. n == 1) (bit_at-zero (r % 64))
        ∙ ap (λ b. b && bit_in words (bit_place wide plane r)) (sym (le-ltb r (64 * wide) ge)))
