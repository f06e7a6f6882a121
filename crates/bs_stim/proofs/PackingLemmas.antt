-- Bits in packed words.
use Rattle.std.proofs.Common.{◌≡◌, ◌≢◌, ℕ, suc, zero, ◌<◌, ◌≤◌, ◌+◌, ◌-◌, ◌*◌, ◌/◌, ◌%◌, ◌^◌, Bool, true, false, List, [], ◌∷◌, ◌++◌, map, length}
use Rattle.std.proofs.Common.{replicate, get_or, set, take, refl, arith, subst, ap, sym, ◌∙◌, ⊎_elim, length-set, get_or-set_same, get_or-set_other}
use Rattle.std.specs.Prelude.{◌==◌}
use Rattle.std.specs.Int.{bit_at}
use Rattle.std.specs.Int.Bits.{bit_and, bit_or}
use Rattle.std.specs.List.{All, range_with_len}
use Rattle.std.proofs.lemmas.Bool.{cases_eq}
use Rattle.std.proofs.lemmas.List.{get_or_read, get_or-map, length-append, length-map, length-replicate}
use Rattle.std.proofs.lemmas.Nat.{row_fits, one_shl}
use Rattle.std.proofs.Math.Nat.{suc-mul}
use Rattle.std.proofs.lemmas.List.FromFn.{length-map-range_with_len, get_or-map-range_with_len, map-range_with_len_more, fill_by_all}
use Rattle.std.proofs.lemmas.Nat.Bits.{bit_at-zero, bit_at-lt, shr_and_one, bit_at_or, bit_at-pow_same, bit_at-pow_other}
use Rattle.bs_stim.specs.declared.limits.TheConstants.{MAX_CYCLES, MAX_TEXT}
use Rattle.bs_stim.specs.Packing.{Rows, bit_in, bits_in, inputs_in, is_one, IsClear, IsPacked, HasPut, HasWritten}

pub bit_read : (words : List ℕ) (place : ℕ) → (bit_and (get_or words (place / 64) 0 / 2 ^ (place % 64)) 1 == 1) ≡ bit_in words place
bit_read words place = ap (λ n. n == 1) (shr_and_one (get_or words (place / 64) 0) (place % 64))

-- ---- one bit

-- no word has no 1
pub no_words : (place : ℕ) → bit_in [] place ≡ false
no_words place = ap (λ n. n == 1) (bit_at-zero (place % 64))

same_place : (a b : ℕ) → a / 64 ≡ b / 64 → a % 64 ≡ b % 64 → a ≡ b
same_place a b q r = omega (arith, q, r)

abbrev word_at : List ℕ → ℕ → ℕ
word_at words at = get_or words (at / 64) 0

-- the word at a place with a bit set
abbrev pub put : List ℕ → ℕ → List ℕ
put words at = set words (at / 64) (bit_or (get_or words (at / 64) 0) (2 ^ (at % 64)))

within : (words : List ℕ) (at : ℕ) → at < 64 * length words → at / 64 < length words
within words at h = omega (arith, h)

put_here : (words : List ℕ) (at : ℕ) → at < 64 * length words → bit_in (put words at) at ≡ true
put_here words at h =
    let word = get_or words (at / 64) 0 in
    let one : bit_at (bit_or word (2 ^ (at % 64))) (at % 64) ≡ 1 =
    omega (arith, bit_at_or word (2 ^ (at % 64)) (at % 64), bit_at-pow_same (at % 64), bit_at-lt word (at % 64)) in
    ap (λ w. bit_at w (at % 64) == 1) (get_or-set_same words (at / 64) (bit_or word (2 ^ (at % 64))) 0 (within words at h)) ∙ ap (λ n. n == 1) one

put_other : (words : List ℕ) (at place : ℕ) → at < 64 * length words → (place ≡ at → ⊥) → bit_in (put words at) place ≡ bit_in words place
put_other words at place h other =
    ⊎_elim same_word (λ (e : place / 64 ≡ at / 64 → ⊥). ap (λ w. bit_at w (place % 64) == 1)
    (get_or-set_other words (at / 64) (place / 64) (bit_or (word_at words at) (2 ^ (at % 64))) 0 e)) (cases_eq (place / 64) (at / 64))
  where
    same_word : place / 64 ≡ at / 64 → bit_in (put words at) place ≡ bit_in words place
    same_word e =
        let apart : place % 64 ≢ at % 64 = λ r. other (same_place place at e r) in
        let kept : bit_at (bit_or (word_at words at) (2 ^ (at % 64))) (place % 64) ≡ bit_at (word_at words at) (place % 64) =
        omega (arith, bit_at_or (word_at words at) (2 ^ (at % 64)) (place % 64), bit_at-pow_other (at % 64) (place % 64) apart) in
        ap (λ k. bit_at (get_or (put words at) k 0) (place % 64) == 1) e
        ∙ (ap (λ w. bit_at w (place % 64) == 1) (get_or-set_same words (at / 64) (bit_or (word_at words at) (2 ^ (at % 64))) 0 (within words at h))
        ∙ (ap (λ n. n == 1) kept
        ∙ ap (λ k. bit_at (get_or words k 0) (place % 64) == 1) (sym e)))

shifted_is : (at : ℕ) → 1 * 2 ^ (at % 64) % 18446744073709551616 ≡ 2 ^ (at % 64)
shifted_is at = one_shl (at % 64) 64 (omega arith)

has_put : (words : List ℕ) (at : ℕ) → at < 64 * length words → HasPut at true words (put words at)
has_put words at h =
    record {
      size = length-set words (at / 64) (bit_or (get_or words (at / 64) 0) (2 ^ (at % 64)));
      here = put_here words at h;
      others = λ place other. put_other words at place h other;
    }

pub has_put_one : (words : List ℕ) (at word : ℕ) (bit : Bool) → at < 64 * length words → word ≡ get_or words (at / 64) word → bit ≡ true →
    HasPut at bit words (set words (at / 64) (bit_or word (1 * 2 ^ (at % 64) % 18446744073709551616)))
has_put_one words at word bit h e one =
    let read : word ≡ get_or words (at / 64) 0 = get_or_read words (at / 64) word (within words at h) e 0 in
    let P : ℕ → Type 0 = λ n. HasPut at true words (set words (at / 64) n) in
    let both : bit_or (get_or words (at / 64) 0) (2 ^ (at % 64)) ≡ bit_or word (1 * 2 ^ (at % 64) % 18446744073709551616) =
    ap (λ w. bit_or w (2 ^ (at % 64))) (sym read) ∙ ap (bit_or word) (sym (shifted_is at)) in
    let Q : Bool → Type 0 = λ b. HasPut at b words (set words (at / 64) (bit_or word (1 * 2 ^ (at % 64) % 18446744073709551616))) in
    subst Q (sym one) (subst P both (has_put words at h))

pub has_put_zero : (words : List ℕ) (at : ℕ) (bit : Bool) → bit_in words at ≡ false → bit ≡ false → HasPut at bit words words
has_put_zero words at bit h off = rw off (record { size = refl; here = h; others = λ place other. refl })

-- ---- several bits

pub none_written : (start : ℕ) (characters words : List ℕ) → IsClear start words → HasWritten start characters 0 words words
none_written start characters words h =
    record {
      size = refl;
      before = λ place lt. refl;
      written = λ k lt. absurd (omega (arith, lt));
      behind = record { each = λ place le. h.each place (omega (arith, le)) };
    }

pub one_more_written : (start k : ℕ) (characters old mid new : List ℕ) → HasWritten start characters k old mid →
    HasPut (start + k) (is_one (get_or characters k 0)) mid new → HasWritten start characters (k + 1) old new
one_more_written start k characters old mid new h p =
    record {
      size = p.size ∙ h.size;
      before = λ place lt. p.others place (λ e. omega (arith, e, lt)) ∙ h.before place lt;
      written =
          λ i lt.
          ⊎_elim
          (λ (e : i ≡ k). (let P : ℕ → Type 0 = λ i. bit_in new (start + i) ≡ is_one (get_or characters i 0) in subst P (sym e) p.here))
          (λ (other : i ≡ k → ⊥). p.others (start + i) (λ e. other (omega (arith, e))) ∙ h.written i (omega (arith, lt, other)))
          (cases_eq i k);
      behind = record { each = λ place le. p.others place (λ e. omega (arith, e, le)) ∙ h.behind.each place (omega (arith, le)) };
    }

-- ---- inputs

same_map : {X : Type 0} (f g : ℕ → X) (a n : ℕ) → ((k : ℕ) → a ≤ k → k < a + n → f k ≡ g k) → map f (range_with_len a n) ≡ map g (range_with_len a n)
same_map f g a zero h = refl
same_map f g a (suc n) h =
    ap (λ x. x ∷ map f (range_with_len (a + 1) n)) (h a (omega arith) (omega arith))
    ∙ ap (λ xs. g a ∷ xs) (same_map f g (a + 1) n (λ k le lt. h k (omega (arith, le)) (omega (arith, lt))))

pub length_bits : (words : List ℕ) (start count : ℕ) → length (bits_in words start count) ≡ count
length_bits words start count = length-map-range_with_len (λ place. bit_in words (start + place)) 0 count

pub length_inputs : (width count : ℕ) (words : List ℕ) → length (inputs_in width count words) ≡ count
length_inputs width count words = length-map-range_with_len (λ cycle. bits_in words (cycle * width) width) 0 count

pub input_at : (width count : ℕ) (words : List ℕ) (cycle : ℕ) → cycle < count →
    get_or (inputs_in width count words) cycle [] ≡ bits_in words (cycle * width) width
input_at width count words cycle lt = get_or-map-range_with_len (λ cycle. bits_in words (cycle * width) width) 0 count cycle cycle [] lt (omega arith)

pub bit_at_place : (width count : ℕ) (words : List ℕ) (cycle place : ℕ) → cycle < count → place < width →
    bit_in words (cycle * width + place) ≡ get_or (get_or (inputs_in width count words) cycle []) place false
bit_at_place width count words cycle place lt small =
    sym (ap (λ bits. get_or bits place false) (input_at width count words cycle lt)
    ∙ get_or-map-range_with_len (λ place. bit_in words (cycle * width + place)) 0 width place place false small (omega arith))

pub row_widths : (width count : ℕ) (words : List ℕ) → All (λ (row : List Bool). length row ≡ width) (inputs_in width count words)
row_widths width count words k d lt =
    ap length (get_or-map-range_with_len (λ cycle. bits_in words (cycle * width) width) 0 count k k d
    (omega (arith, lt, length_inputs width count words)) (omega arith))
    ∙ length_bits words (k * width) width

-- an input lies before the end of the inputs
pub input_ends : (width count cycle : ℕ) → cycle < count → cycle * width + width ≤ count * width
input_ends width count cycle lt = row_fits cycle width count width lt (omega arith)

pub none_packed : (width : ℕ) → IsPacked width 0 []
none_packed width = record { room = omega arith; small = omega arith; clear = record { each = λ place le. no_words place } }

-- ---- one input more

same_bits : (old new : List ℕ) (start width : ℕ) → ((place : ℕ) → place < start + width → bit_in new place ≡ bit_in old place) →
    bits_in new start width ≡ bits_in old start width
same_bits old new start width h =
    same_map (λ place. bit_in new (start + place)) (λ place. bit_in old (start + place)) 0 width (λ k le lt. h (start + k) (omega (arith, lt)))

pub same_inputs : (width count : ℕ) (old new : List ℕ) → ((place : ℕ) → place < count * width → bit_in new place ≡ bit_in old place) →
    inputs_in width count new ≡ inputs_in width count old
same_inputs width count old new h =
    same_map (λ cycle. bits_in new (cycle * width) width) (λ cycle. bits_in old (cycle * width) width) 0 count
    (λ cycle le lt. same_bits old new (cycle * width) width (λ place small. h place (omega (arith, small, input_ends width count cycle (omega (arith, lt))))))

bits_written : (start width : ℕ) (characters old new : List ℕ) → length characters ≡ width → HasWritten start characters width old new →
    bits_in new start width ≡ map is_one characters
bits_written start width characters old new e h =
    sym (fill_by_all (λ place. bit_in new (start + place)) (map is_one characters) width false (length-map characters is_one ∙ e)
    (λ k lt. get_or-map is_one characters k 0 false (omega (arith, lt, e)) ∙ sym (h.written k lt)))

pub one_more_input : (width count : ℕ) (characters old new : List ℕ) → length characters ≡ width → HasWritten (count * width) characters width old new →
    inputs_in width (count + 1) new ≡ inputs_in width count old ++ map is_one characters ∷ []
one_more_input width count characters old new e h =
    map-range_with_len_more (λ cycle. bits_in new (cycle * width) width) 0 count count (omega arith)
    ∙ (ap (λ rows. rows ++ bits_in new (count * width) width ∷ []) (same_inputs width count old new (λ place lt. h.before place lt))
    ∙ ap (λ bits. inputs_in width count old ++ bits ∷ []) (bits_written (count * width) width characters old new e h))

-- words of zeros behind change no bit
abbrev zero_word : ℕ
zero_word = 0

pub same_grown : (words : List ℕ) (more place : ℕ) → bit_in (words ++ replicate more zero_word) place ≡ bit_in words place
same_grown words more place = ap (λ w. bit_at w (place % 64) == 1) (same_word words (place / 64))
  where
    zeros : (n k : ℕ) → get_or (replicate n zero_word) k 0 ≡ zero_word
    zeros zero k = refl
    zeros (suc n) zero = refl
    zeros (suc n) (suc k) = zeros n k

    same_word : (ws : List ℕ) (k : ℕ) → get_or (ws ++ replicate more zero_word) k 0 ≡ get_or ws k 0
    same_word [] k = zeros more k
    same_word (w ∷ ws) zero = refl
    same_word (w ∷ ws) (suc k) = same_word ws k

next_start : (count width : ℕ) → (count + 1) * width ≡ count * width + width
next_start count width = let e : count + 1 ≡ suc count = omega arith in ap (λ n. n * width) e ∙ suc-mul count width

pub one_more_packed : (width count : ℕ) (characters old new : List ℕ) → count * width + width ≤ 64 * length new → count * width + width < 2 ^ 64 →
    HasWritten (count * width) characters width old new → IsPacked width (count + 1) new
one_more_packed width count characters old new room small h =
    record {
      room = omega (arith, room, next_start count width);
      small = omega (arith, small, next_start count width);
      clear = record { each = λ place le. h.behind.each place (omega (arith, le, next_start count width)) };
    }

-- ---- bits copied

copied_last : (xs : List Bool) (k : ℕ) (b : Bool) → k < length xs → take (k + 1) (set xs k b) ≡ take k xs ++ b ∷ []
copied_last xs k b lt = let e : k + 1 ≡ suc k = omega arith in ap (λ n. take n (set xs k b)) e ∙ by xs k lt
  where
    by : (ys : List Bool) (j : ℕ) → j < length ys → take (suc j) (set ys j b) ≡ take j ys ++ b ∷ []
    by [] j h = absurd (omega (arith, h))
    by (y ∷ ys) zero h = refl
    by (y ∷ ys) (suc j) h = ap (λ zs. y ∷ zs) (by ys j (omega (arith, h)))

pub one_more_copied : (words : List ℕ) (start k : ℕ) (xs : List Bool) → k < length xs → take k xs ≡ bits_in words start k →
    take (k + 1) (set xs k (bit_in words (start + k))) ≡ bits_in words start (k + 1)
one_more_copied words start k xs lt e =
    copied_last xs k (bit_in words (start + k)) lt
    ∙ (ap (λ bits. bits ++ bit_in words (start + k) ∷ []) e
    ∙ sym (map-range_with_len_more (λ place. bit_in words (start + place)) 0 k k (omega arith)))

pub all_copied : (xs bits : List Bool) (k n : ℕ) → take k xs ≡ bits → n ≤ k → length xs ≡ n → xs ≡ bits
all_copied xs bits k n e le same = sym (by xs k (omega (arith, le, same))) ∙ e
  where
    by : (ys : List Bool) (j : ℕ) → length ys ≤ j → take j ys ≡ ys
    by [] zero h = refl
    by [] (suc j) h = refl
    by (y ∷ ys) zero h = absurd (omega (arith, h))
    by (y ∷ ys) (suc j) h = ap (λ zs. y ∷ zs) (by ys j (omega (arith, h)))

-- ---- what the fields say of the inputs

pub recorded_below : (width count : ℕ) (words : List ℕ) (rows : Rows) (cycle : ℕ) →
    record { width = width; rows = inputs_in width count words } ≡ rows → cycle < length rows.rows → cycle < count
recorded_below width count words rows cycle is lt = omega (arith, lt, ap (λ r. length r.rows) is, length_inputs width count words)

pub recorded_few : (width count : ℕ) (words : List ℕ) (rows : Rows) → record { width = width; rows = inputs_in width count words } ≡ rows →
    length rows.rows < MAX_CYCLES → count < MAX_CYCLES
recorded_few width count words rows is few = omega (arith, few, ap (λ r. length r.rows) is, length_inputs width count words)

pub input_small : (width count : ℕ) (words : List ℕ) (rows : Rows) → record { width = width; rows = inputs_in width count words } ≡ rows →
    length rows.rows < MAX_CYCLES → rows.width ≤ MAX_TEXT →
    count * width + width ≤ 4398046511104
input_small width count words rows is few narrow =
    row_fits count width 65536 67108864 (recorded_few width count words rows is few) (omega (arith, narrow, ap (λ r. r.width) is))

-- an input that is written behind the inputs of words that have grown
pub one_more_input_grown : (width count more : ℕ) (characters old grown new : List ℕ) → length characters ≡ width →
    grown ≡ old ++ replicate more zero_word → HasWritten (count * width) characters width grown new →
    inputs_in width (count + 1) new ≡ inputs_in width count old ++ map is_one characters ∷ []
one_more_input_grown width count more characters old grown new wide e h =
    one_more_input width count characters grown new wide h
    ∙ ap (λ rows. rows ++ map is_one characters ∷ [])
    (same_inputs width count old grown (λ place lt. ap (λ ws. bit_in ws place) e ∙ same_grown old more place))

pub room_grown : (size : ℕ) (old grown new : List ℕ) → grown ≡ old ++ replicate ((size + 63) / 64 - length old) zero_word →
    length new ≡ length grown → size ≤ 64 * length new
room_grown size old grown new e same =
    let more : ℕ = (size + 63) / 64 - length old in
    omega (arith, same, ap length e, length-append old (replicate more zero_word), length-replicate more zero_word)
