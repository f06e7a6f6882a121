-- What lanes show of a signal, and which show a value that is none of a set.
use Rattle.std.proofs.Common.{◌≡◌, ℕ, ◌<◌, ◌≤◌, ◌+◌, ◌/◌, ◌%◌, Bool, true, false, not, ◌&&◌, ◌||◌, List, [], ◌∷◌, ◌++◌, length, take, drop, get_or}
use Rattle.std.proofs.Common.{refl, ap, sym, subst, ◌∙◌, ◌⊎◌, inl, inr, arith}
use Rattle.std.specs.Prelude.{◌==◌, All}
use Rattle.std.specs.Bool.{beq}
use Rattle.std.specs.Int.{bit_at}
use Rattle.std.proofs.lemmas.Bool.{cases_lt}
use Rattle.std.proofs.lemmas.List.{drop_all, drop_more, get_or_default, get_or_past, take_all, take_more}
use Rattle.std.proofs.lemmas.List.Folds.{list_any-append}
use Rattle.std.proofs.lemmas.List.FromFn.{get_or-map-range_with_len, length-map-range_with_len}
use Rattle.std.proofs.lemmas.Nat.Bits.{bit_at-zero}
use Rattle.bs_bits.specs.Bits.{bits_eq}
use Rattle.bs_stim.specs.Packing.{bit_in}
use Rattle.bs_lanes.specs.Planes.{bit_place, lane}
use Rattle.bs_scan.specs.Moments.{is_listed}
use Rattle.bs_break.specs.Masks.{has, IsCut}
use Rattle.bs_inspect_near.specs.Values.{state_bit}
use Rattle.bs_inspect_near.specs.Shown.{Agrees, Misses, words_value}

-- ---- a word

pub word_there : (words : List ℕ) (p w : ℕ) → p < length words → w ≡ get_or words p w → w ≡ get_or words p 0
word_there words p w lt e = e ∙ get_or_default words p w 0 lt

pub word_past : (words : List ℕ) (p : ℕ) → length words ≤ p → 0 ≡ get_or words p 0
word_past words p le = sym (get_or_past words p 0 le)

-- ---- a bit of a lane

bit_here : (words : List ℕ) (p b : ℕ) → b < 64 → bit_in words (bit_place 1 p b) ≡ has (get_or words p 0) b
bit_here words p b small =
    let word : bit_place 1 p b / 64 ≡ p = omega (arith, small) in
    let low : bit_place 1 p b % 64 ≡ b = omega (arith, small) in
    λ i. bit_at (get_or words (word i) 0) (low i) == 1

pub bit_shown : (words : List ℕ) (p b : ℕ) → p < length words → state_bit (lane 1 (length words) words b) p ≡ bit_in words (bit_place 1 p b)
bit_shown words p b lt = get_or-map-range_with_len (λ plane. bit_in words (bit_place 1 plane b)) 0 (length words) p p false lt (omega arith)

pub bit_beyond : (words : List ℕ) (p b : ℕ) → length words ≤ p → state_bit (lane 1 (length words) words b) p ≡ false
bit_beyond words p b le =
    get_or_past (lane 1 (length words) words b) p false
    (omega (arith, le, length-map-range_with_len (λ plane. bit_in words (bit_place 1 plane b)) 0 (length words)))

bit_is : (words : List ℕ) (p b : ℕ) → b < 64 → state_bit (lane 1 (length words) words b) p ≡ has (get_or words p 0) b
bit_is words p b small = by (cases_lt p (length words))
  where
    by : (p < length words) ⊎ (length words ≤ p) → state_bit (lane 1 (length words) words b) p ≡ has (get_or words p 0) b
    by (inl lt) = bit_shown words p b lt ∙ bit_here words p b small
    by (inr le) =
        bit_beyond words p b le ∙ sym (ap (λ (w : ℕ). has w b) (get_or_past words p 0 le) ∙ ap (λ (n : ℕ). n == 1) (bit_at-zero b))

nothing : (b : ℕ) → has 0 b ≡ false
nothing b = ap (λ (n : ℕ). n == 1) (bit_at-zero b)

-- ---- one value

-- what is left of a mask agrees at the places that are left
pub record LeavesSo (words places : List ℕ) (value : List Bool) (mask left i : ℕ) : Type 0 where
  pub each : (b : ℕ) → b < 64 →
      (has mask b && bits_eq (words_value places words b) value) ≡ (has left b && bits_eq (words_value (drop i places) words b) (drop i value))

pub agrees_begin : (words places : List ℕ) (value : List Bool) (mask : ℕ) → LeavesSo words places value mask mask 0
agrees_begin words places value mask = record { each = λ b lt. refl }

pub agrees_none : (words places : List ℕ) (value : List Bool) (mask left i : ℕ) → left ≡ 0 → LeavesSo words places value mask left i →
    Agrees words places value mask 0
agrees_none words places value mask left i e so = record {
  each = λ b lt.
      nothing b
      ∙ sym
      (so.each b lt
      ∙ ap (λ (t : Bool). t && bits_eq (words_value (drop i places) words b) (drop i value)) (ap (λ (n : ℕ). has n b) e ∙ nothing b));
}

pub agrees_more : (words places : List ℕ) (value : List Bool) (mask left new i p w : ℕ) (bit : Bool) → i < length places → length value ≡ length places →
    p ≡ get_or places i p → w ≡ get_or words p 0 → bit ≡ get_or value i false → IsCut left w bit new → LeavesSo words places value mask left i →
    LeavesSo words places value mask new (i + 1)
agrees_more words places value mask left new i p w bit lt long at word is cut so = record {
  each = λ b small.
      let front : drop i places ≡ p ∷ drop (i + 1) places = drop_more places i p lt ∙ ap (λ (q : ℕ). q ∷ drop (i + 1) places) (sym at) in
      let head : drop i value ≡ bit ∷ drop (i + 1) value =
      drop_more value i false (omega (arith, lt, long)) ∙ ap (λ (t : Bool). t ∷ drop (i + 1) value) (sym is) in
      let tail : Bool = bits_eq (words_value (drop (i + 1) places) words b) (drop (i + 1) value) in
      let here : state_bit (lane 1 (length words) words b) p ≡ has w b = bit_is words p b small ∙ ap (λ (n : ℕ). has n b) (sym word) in
      so.each b small
      ∙ ((λ j. has left b && bits_eq (words_value (front j) words b) (head j))
      ∙ (ap (λ (t : Bool). has left b && (beq t bit && tail)) here
      ∙ (grouped (has left b) (beq (has w b) bit) tail ∙ ap (λ (t : Bool). t && tail) (sym (cut.each b small)))));
}
  where
    grouped : (a b c : Bool) → (a && (b && c)) ≡ ((a && b) && c)
    grouped true b c = refl
    grouped false b c = refl

pub agrees_all : (words places : List ℕ) (value : List Bool) (mask left i : ℕ) → length places ≤ i → length value ≡ length places →
    LeavesSo words places value mask left i → Agrees words places value mask left
agrees_all words places value mask left i le long so = record {
  each = λ b small.
      sym
      (so.each b small
      ∙ ((λ j. has left b && bits_eq (words_value (drop_all i places le j) words b) (drop_all i value (omega (arith, le, long)) j))
      ∙ and_true (has left b)));
}
  where
    and_true : (a : Bool) → (a && true) ≡ a
    and_true true = refl
    and_true false = refl

-- ---- some values

pub misses_begin : (words places : List ℕ) (values : List (List Bool)) (mask : ℕ) → Misses (take 0 values) words places mask mask
misses_begin words places values mask = record { each = λ b lt. whole (has mask b) }
  where
    whole : (a : Bool) → a ≡ (a && true)
    whole true = refl
    whole false = refl

pub misses_more : (words places : List ℕ) (values : List (List Bool)) (value : List Bool) (mask left hits new i : ℕ) → i < length values →
    value ≡ get_or values i value → Agrees words places value left hits → IsCut left hits false new → Misses (take i values) words places mask left →
    Misses (take (i + 1) values) words places mask new
misses_more words places values value mask left hits new i lt at agrees cut so = record {
  each = λ b small.
      let s : List Bool = words_value places words b in
      let more : is_listed (take (i + 1) values) s ≡ (is_listed (take i values) s || (bits_eq s value || false)) =
      ap (λ (vs : List (List Bool)). is_listed vs s) (take_more values i value lt ∙ ap (λ (v : List Bool). take i values ++ v ∷ []) (sym at))
      ∙ list_any-append (bits_eq s) (take i values) (value ∷ []) in
      cut.each b small
      ∙ (ap (λ (h : Bool). has left b && beq h false) (agrees.each b small)
      ∙ (ap (λ (l : Bool). l && beq (l && bits_eq s value) false) (so.each b small)
      ∙ (left_out (has mask b) (is_listed (take i values) s) (bits_eq s value) ∙ ap (λ (t : Bool). has mask b && not t) (sym more))));
}
  where
    left_out : (m a e : Bool) → ((m && not a) && beq ((m && not a) && e) false) ≡ (m && not (a || (e || false)))
    left_out true true e = refl
    left_out true false true = refl
    left_out true false false = refl
    left_out false a e = refl

pub misses_all : (words places : List ℕ) (values : List (List Bool)) (mask left i : ℕ) → length values ≤ i → Misses (take i values) words places mask left →
    Misses values words places mask left
misses_all words places values mask left i le so = subst (λ (vs : List (List Bool)). Misses vs words places mask left) (take_all i values le) so

pub value_wide : (places : List ℕ) (values : List (List Bool)) (value : List Bool) (i : ℕ) → i < length values → value ≡ get_or values i value →
    All (λ v. length v ≡ length places) values → length value ≡ length places
value_wide places values value i lt at wide = ap length at ∙ wide i value lt
