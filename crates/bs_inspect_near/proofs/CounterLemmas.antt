-- Counters of 64 lanes: bits are added to each, and one is read.
use Rattle.std.proofs.Common.{◌≡◌, ℕ, zero, suc, ◌<◌, ◌≤◌, ◌+◌, ◌-◌, ◌*◌, ◌%◌, ◌^◌, Bool, true, false, not, List, [], ◌∷◌, ◌++◌, length, take, drop, get_or, set, max, min}
use Rattle.std.proofs.Common.{refl, ap, sym, ◌∙◌, arith}
use Rattle.std.specs.Prelude.{◌==◌}
use Rattle.std.specs.Bool.{beq}
use Rattle.std.specs.Int.{bit_at, w64}
use Rattle.std.specs.Int.Bits.{bit_and, bit_or, bit_xor}
use Rattle.std.proofs.lemmas.List.{drop-set-lt, drop_all, drop_more, get_or_default, length-set, take_all, take_more_set}
use Rattle.std.proofs.lemmas.Nat.Bits.{bit_at_and, bit_at_not, bit_at_or, bit_at_xor, bit_at-lt}
use Rattle.std.proofs.Common.{pow-suc}
use Rattle.bs_break.specs.Masks.{has}
use Rattle.bs_break.proofs.MaskLemmas.{nothing}
use Rattle.bs_net.specs.declared.limits.TheConstants.{MAX_FLOPS}
use Rattle.bs_inspect_near.specs.Counters.{Adds, AddsFour, CarriesOn, IsFull, IsOther, lane_count, one_if, ones}

pub one_small : (t : Bool) → one_if t ≤ 1
one_small true = omega arith
one_small false = omega arith

-- ---- a digit

one_is : (n : ℕ) → n < 2 → one_if (n == 1) ≡ n
one_is zero lt = refl
one_is (suc zero) lt = refl
one_is (suc (suc n)) lt = absurd (omega (arith, lt))

digit_is : (word lane : ℕ) → one_if (has word lane) ≡ bit_at word lane
digit_is word lane = one_is (bit_at word lane) (bit_at-lt word lane)

adder : (x y t : ℕ) → x < 2 → y < 2 → (x + y) % 2 + 2 * (min x y + t) ≡ y + (x + 2 * t)
adder zero zero t h k = omega arith
adder zero (suc zero) t h k = omega arith
adder (suc zero) zero t h k = omega arith
adder (suc zero) (suc zero) t h k = omega arith
adder zero (suc (suc y)) t h k = absurd (omega (arith, k))
adder (suc zero) (suc (suc y)) t h k = absurd (omega (arith, k))
adder (suc (suc x)) y t h k = absurd (omega (arith, h))

-- a digit and a carry give a digit and the next carry
halves : (old carry lane t : ℕ) →
    one_if (has (bit_xor old carry) lane) + 2 * (one_if (has (bit_and old carry) lane) + t) ≡ one_if (has carry lane) + (one_if (has old lane) + 2 * t)
halves old carry lane t =
    (λ i. (digit_is (bit_xor old carry) lane ∙ bit_at_xor old carry lane) i + 2 * ((digit_is (bit_and old carry) lane ∙ bit_at_and old carry lane) i + t))
    ∙ (adder (bit_at old lane) (bit_at carry lane) t (bit_at-lt old lane) (bit_at-lt carry lane)
    ∙ (λ i. sym (digit_is carry lane) i + (sym (digit_is old lane) i + 2 * t)))

-- ---- some digits over a number

abbrev pub over : List ℕ → ℕ → ℕ → ℕ
over [] lane high = high
over (word ∷ words) lane high = one_if (has word lane) + 2 * over words lane high

over_push : (words : List ℕ) (lane word high : ℕ) → over (words ++ word ∷ []) lane high ≡ over words lane (one_if (has word lane) + 2 * high)
over_push [] lane word high = refl
over_push (w ∷ words) lane word high = ap (λ (n : ℕ). one_if (has w lane) + 2 * n) (over_push words lane word high)

over_zero : (words : List ℕ) (lane : ℕ) → over words lane 0 ≡ lane_count words lane
over_zero [] lane = refl
over_zero (w ∷ words) lane = ap (λ (n : ℕ). one_if (has w lane) + 2 * n) (over_zero words lane)

over_great : (words : List ℕ) (lane : ℕ) → 2 ^ length words ≤ over words lane 1
over_great [] lane = omega arith
over_great (w ∷ words) lane =
    let twice : 2 ^ length (w ∷ words) ≡ 2 ^ length words * 2 = pow-suc 2 (length words) in omega (arith, twice, over_great words lane)

-- ---- bits are added

-- so much is added to each lane: digits up to a place are right, and the carry goes on
pub record AddSo (old : List ℕ) (extra : ℕ → ℕ) (j : ℕ) (new : List ℕ) (carry : ℕ) : Type 0 where
  pub size : length new ≡ length old
  pub rest : drop j new ≡ drop j old
  pub sum : (b : ℕ) → b < 64 → over (take j new) b (one_if (has carry b) + lane_count (drop j old) b) ≡ lane_count old b + extra b

abbrev pub bit_of : ℕ → ℕ → ℕ
bit_of word b = one_if (has word b)

pub add_begin : (old : List ℕ) (word : ℕ) → AddSo old (bit_of word) 0 old word
add_begin old word = record {
  size = refl;
  rest = refl;
  sum = λ b small. (let e : one_if (has word b) + lane_count old b ≡ lane_count old b + one_if (has word b) = omega arith in e);
}

pub add_more : (old new : List ℕ) (extra : ℕ → ℕ) (j carry o : ℕ) → j < length new → o ≡ get_or new j o → AddSo old extra j new carry →
    AddSo old extra (j + 1) (set new j (bit_xor o carry)) (bit_and o carry)
add_more old new extra j carry o lt at so = record {
  size = length-set new j (bit_xor o carry) ∙ so.size;
  rest = drop-set-lt (j + 1) new j (bit_xor o carry) (omega arith) ∙ ap (drop 1) cons;
  sum = λ b small.
      let here : get_or old j 0 ≡ o = sym (at ∙ (get_or_default new j o 0 lt ∙ ap (λ (l : List ℕ). get_or l 0 0) cons)) in
      let tail : ℕ = lane_count (drop (j + 1) old) b in
      let front : take (j + 1) (set new j (bit_xor o carry)) ≡ take j new ++ bit_xor o carry ∷ [] = take_more_set new j (bit_xor o carry) lt in
      let back : drop j old ≡ o ∷ drop (j + 1) old =
      drop_more old j 0 (omega (arith, lt, so.size)) ∙ ap (λ (w : ℕ). w ∷ drop (j + 1) old) here in
      ap (λ (ws : List ℕ). over ws b (one_if (has (bit_and o carry) b) + tail)) front
      ∙ (over_push (take j new) b (bit_xor o carry) (one_if (has (bit_and o carry) b) + tail)
      ∙ (ap (over (take j new) b) (halves o carry b tail ∙ ap (λ (ws : List ℕ). one_if (has carry b) + lane_count ws b) (sym back))
      ∙ so.sum b small));
}
  where
    cons : get_or new j 0 ∷ drop (j + 1) new ≡ get_or old j 0 ∷ drop (j + 1) old
    cons = sym (drop_more new j 0 lt) ∙ (so.rest ∙ drop_more old j 0 (omega (arith, lt, so.size)))

split : (words : List ℕ) (j lane : ℕ) → over (take j words) lane (lane_count (drop j words) lane) ≡ lane_count words lane
split words zero lane = refl
split [] (suc j) lane = refl
split (w ∷ words) (suc j) lane = ap (λ (n : ℕ). one_if (has w lane) + 2 * n) (split words j lane)

-- nothing is carried on
early : (old new : List ℕ) (extra : ℕ → ℕ) (j carry : ℕ) → carry ≡ 0 → AddSo old extra j new carry → (b : ℕ) → b < 64 →
    lane_count new b ≡ lane_count old b + extra b
early old new extra j carry none so b small =
    let zero_more : lane_count (drop j old) b ≡ 0 + lane_count (drop j old) b = omega arith in
    let no_carry : lane_count (drop j old) b ≡ one_if (has carry b) + lane_count (drop j old) b =
    zero_more ∙ ap (λ (t : Bool). one_if t + lane_count (drop j old) b) (sym (nothing b) ∙ ap (λ (n : ℕ). has n b) (sym none)) in
    sym (split new j b)
    ∙ (ap (λ (ws : List ℕ). over (take j new) b (lane_count ws b)) so.rest ∙ (ap (over (take j new) b) no_carry ∙ so.sum b small))

-- no digit is left
ended : (old new : List ℕ) (extra : ℕ → ℕ) (j carry : ℕ) → length old ≤ j → AddSo old extra j new carry → (b : ℕ) → b < 64 →
    lane_count old b + extra b < 2 ^ length old → lane_count new b ≡ lane_count old b + extra b
ended old new extra j carry le so b small room = by (has carry b) refl
  where
    whole : over new b (one_if (has carry b)) ≡ lane_count old b + extra b
    whole =
        let none : one_if (has carry b) + lane_count (drop j old) b ≡ one_if (has carry b) =
        ap (λ (ws : List ℕ). one_if (has carry b) + lane_count ws b) (drop_all j old le) ∙ omega arith in
        sym
        ((λ i. over (take_all j new (omega (arith, le, so.size)) i) b (none i)))
        ∙ so.sum b small

    by : (t : Bool) → has carry b ≡ t → lane_count new b ≡ lane_count old b + extra b
    by false e = sym (over_zero new b) ∙ (ap (λ (t : Bool). over new b (one_if t)) (sym e) ∙ whole)
    by true e =
        let great : 2 ^ length new ≤ over new b 1 = over_great new b in
        let is : over new b 1 ≡ lane_count old b + extra b = ap (λ (t : Bool). over new b (one_if t)) (sym e) ∙ whole in
        let same : 2 ^ length new ≡ 2 ^ length old = ap (λ (n : ℕ). 2 ^ n) so.size in
        absurd (omega (arith, great, is, same, room))

pub add_early : (old new : List ℕ) (word j carry : ℕ) → carry ≡ 0 → AddSo old (bit_of word) j new carry → Adds old word new
add_early old new word j carry none so = record {
  size = so.size;
  each = λ b small room. early old new (bit_of word) j carry none so b small;
}

pub add_all : (old new : List ℕ) (word j carry : ℕ) → length old ≤ j → AddSo old (bit_of word) j new carry → Adds old word new
add_all old new word j carry le so = record {
  size = so.size;
  each = λ b small room. ended old new (bit_of word) j carry le so b small (omega (arith, room, one_small (has word b)));
}

-- ---- three bits make two digits

full_adder : (x y z : ℕ) → x < 2 → y < 2 → z < 2 → ((x + y) % 2 + z) % 2 + 2 * max (min x y) (min ((x + y) % 2) z) ≡ x + (y + z)
full_adder zero zero zero h k l = refl
full_adder zero zero (suc zero) h k l = refl
full_adder zero (suc zero) zero h k l = refl
full_adder zero (suc zero) (suc zero) h k l = refl
full_adder (suc zero) zero zero h k l = refl
full_adder (suc zero) zero (suc zero) h k l = refl
full_adder (suc zero) (suc zero) zero h k l = refl
full_adder (suc zero) (suc zero) (suc zero) h k l = refl
full_adder (suc (suc x)) y z h k l = absurd (omega (arith, h))
full_adder zero (suc (suc y)) z h k l = absurd (omega (arith, k))
full_adder (suc zero) (suc (suc y)) z h k l = absurd (omega (arith, k))
full_adder zero zero (suc (suc z)) h k l = absurd (omega (arith, l))
full_adder zero (suc zero) (suc (suc z)) h k l = absurd (omega (arith, l))
full_adder (suc zero) zero (suc (suc z)) h k l = absurd (omega (arith, l))
full_adder (suc zero) (suc zero) (suc (suc z)) h k l = absurd (omega (arith, l))

pub full_is : (a b c : ℕ) → IsFull a b c (bit_xor (bit_xor a b) c) (bit_or (bit_and a b) (bit_and (bit_xor a b) c))
full_is a b c = record {
  each = λ l.
      let low : one_if (has (bit_xor (bit_xor a b) c) l) ≡ ((bit_at a l + bit_at b l) % 2 + bit_at c l) % 2 =
      digit_is (bit_xor (bit_xor a b) c) l ∙ (bit_at_xor (bit_xor a b) c l ∙ ap (λ (n : ℕ). (n + bit_at c l) % 2) (bit_at_xor a b l)) in
      let high : one_if (has (bit_or (bit_and a b) (bit_and (bit_xor a b) c)) l)
      ≡ max (min (bit_at a l) (bit_at b l)) (min ((bit_at a l + bit_at b l) % 2) (bit_at c l)) =
      digit_is (bit_or (bit_and a b) (bit_and (bit_xor a b) c)) l
      ∙ (bit_at_or (bit_and a b) (bit_and (bit_xor a b) c) l
      ∙ (λ i. max (bit_at_and a b l i) ((bit_at_and (bit_xor a b) c l ∙ ap (λ (n : ℕ). min n (bit_at c l)) (bit_at_xor a b l)) i))) in
      (λ i. low i + 2 * high i)
      ∙ (full_adder (bit_at a l) (bit_at b l) (bit_at c l) (bit_at-lt a l) (bit_at-lt b l) (bit_at-lt c l)
      ∙ (λ i. sym (digit_is a l) i + (sym (digit_is b l) i + sym (digit_is c l) i)));
}

-- ---- four bits are added

abbrev pub four_of : ℕ → ℕ → ℕ
four_of word l = 4 * one_if (has word l)

pub carry_begin : (old : List ℕ) (word : ℕ) → 2 ≤ length old → AddSo old (four_of word) 2 old word
carry_begin [] word enough = absurd (omega (arith, enough))
carry_begin (x ∷ []) word enough = absurd (omega (arith, enough))
carry_begin (x ∷ y ∷ rest) word enough = record { size = refl; rest = refl; sum = λ l small. omega arith }

pub carry_early : (old new : List ℕ) (word j carry : ℕ) → carry ≡ 0 → AddSo old (four_of word) j new carry → CarriesOn old word new
carry_early old new word j carry none so = record {
  size = so.size;
  each = λ l small room. early old new (four_of word) j carry none so l small;
}

pub carry_all : (old new : List ℕ) (word j carry : ℕ) → length old ≤ j → AddSo old (four_of word) j new carry → CarriesOn old word new
carry_all old new word j carry le so = record {
  size = so.size;
  each = λ l small room. ended old new (four_of word) j carry le so l small room;
}

ones_few : (a b c d l : ℕ) → ones a b c d l ≤ 4
ones_few a b c d l = omega (arith, one_small (has a l), one_small (has b l), one_small (has c l), one_small (has d l))

-- two digits and what is carried beyond them
two_digits : (old : List ℕ) (a b c d first half one low two second next over l : ℕ) → 2 ≤ length old → first ≡ get_or old 0 first →
    IsFull first a b half one → IsFull half c d low two → second ≡ get_or (set old 0 low) 1 second → IsFull second one two next over →
    lane_count (set (set old 0 low) 1 next) l + 4 * one_if (has over l) ≡ lane_count old l + ones a b c d l
two_digits [] a b c d first half one low two second next over l enough at f g at_second h = absurd (omega (arith, enough))
two_digits (x ∷ []) a b c d first half one low two second next over l enough at f g at_second h = absurd (omega (arith, enough))
two_digits (x ∷ y ∷ rest) a b c d first half one low two second next over l enough at f g at_second h =
    let x_is : one_if (has first l) ≡ one_if (has x l) = ap (λ (w : ℕ). one_if (has w l)) at in
    let y_is : one_if (has second l) ≡ one_if (has y l) = ap (λ (w : ℕ). one_if (has w l)) at_second in
    omega (arith, x_is, y_is, f.each l, g.each l, h.each l)

pub four_added : (old : List ℕ) (a b c d first half one low two second next over : ℕ) (new : List ℕ) → 2 ≤ length old → first ≡ get_or old 0 first →
    IsFull first a b half one → IsFull half c d low two → second ≡ get_or (set old 0 low) 1 second → IsFull second one two next over →
    CarriesOn (set (set old 0 low) 1 next) over new → AddsFour old a b c d new
four_added old a b c d first half one low two second next over new enough at f g at_second h goes = record {
  size = goes.size ∙ size;
  each = λ l small room.
      let same : lane_count (set (set old 0 low) 1 next) l + 4 * one_if (has over l) ≡ lane_count old l + ones a b c d l =
      two_digits old a b c d first half one low two second next over l enough at f g at_second h in
      let long : 2 ^ length (set (set old 0 low) 1 next) ≡ 2 ^ length old = ap (λ (n : ℕ). 2 ^ n) size in
      goes.each l small (omega (arith, same, long, room, ones_few a b c d l)) ∙ same;
}
  where
    size : length (set (set old 0 low) 1 next) ≡ length old
    size = length-set (set old 0 low) 1 next ∙ length-set old 0 low

-- ---- a counter is read

-- what the digits from a place on make is no more
rest_less : (digits : List ℕ) (i lane : ℕ) → lane_count (drop i digits) lane ≤ lane_count digits lane
rest_less digits zero lane = omega arith
rest_less [] (suc i) lane = omega arith
rest_less (w ∷ digits) (suc i) lane = omega (arith, rest_less digits i lane)

pub record ReadSo (digits : List ℕ) (lane k number : ℕ) : Type 0 where
  pub is : number ≡ lane_count (drop (length digits - k) digits) lane
  pub few : number ≤ lane_count digits lane

pub read_begin : (digits : List ℕ) (lane : ℕ) → ReadSo digits lane 0 0
read_begin digits lane = record {
  is = sym (ap (λ (ws : List ℕ). lane_count ws lane) (drop_all (length digits - 0) digits (omega arith)));
  few = omega arith;
}

pub read_more : (digits : List ℕ) (lane k n number w r : ℕ) (digit : Bool) → n ≡ length digits → k < n → w ≡ get_or digits (n - 1 - k) w →
    digit ≡ has w lane → r ≡ one_if digit → ReadSo digits lane k number → ReadSo digits lane (k + 1) (2 * number + r)
read_more digits lane k n number w r digit e lt at is one so =
    let place : n - 1 - k ≡ length digits - (k + 1) = omega (arith, e, lt) in
    let next : length digits - (k + 1) + 1 ≡ length digits - k = omega (arith, e, lt) in
    let within : length digits - (k + 1) < length digits = omega (arith, e, lt) in
    let word : get_or digits (length digits - (k + 1)) 0 ≡ w =
    sym (at ∙ (ap (λ (i : ℕ). get_or digits i w) place ∙ get_or_default digits (length digits - (k + 1)) w 0 within)) in
    let back : drop (length digits - (k + 1)) digits ≡ w ∷ drop (length digits - k) digits =
    drop_more digits (length digits - (k + 1)) 0 within ∙ (λ i. word i ∷ drop (next i) digits) in
    let whole : 2 * number + r ≡ lane_count (drop (length digits - (k + 1)) digits) lane =
    (λ i. 2 * so.is i + (one ∙ ap one_if is) i)
    ∙ ((let turned : 2 * lane_count (drop (length digits - k) digits) lane + one_if (has w lane) ≡
    one_if (has w lane) + 2 * lane_count (drop (length digits - k) digits) lane = omega arith in turned)
    ∙ ap (λ (ws : List ℕ). lane_count ws lane) (sym back)) in
    record { is = whole; few = omega (arith, whole, rest_less digits (length digits - (k + 1)) lane) }

pub read_all : (digits : List ℕ) (lane k n number : ℕ) → n ≡ length digits → n ≤ k → ReadSo digits lane k number → number ≡ lane_count digits lane
read_all digits lane k n number e le so =
    let none : length digits - k ≡ 0 = omega (arith, e, le) in so.is ∙ ap (λ (i : ℕ). lane_count (drop i digits) lane) none

pub read_small : (digits : List ℕ) (lane k number : ℕ) → lane_count digits lane ≤ MAX_FLOPS → ReadSo digits lane k number → number ≤ MAX_FLOPS
read_small digits lane k number few so = omega (arith, few, so.few)

-- ---- another bit

pub other_one : (word : ℕ) (bit : Bool) → word < 2 ^ 64 → bit ≡ true → IsOther word bit (18446744073709551615 - word)
other_one word bit small e = record {
  each = λ b lt. rw e (ap (λ (n : ℕ). n == 1) (bit_at_not w64 word b small lt) ∙ turned (bit_at word b) (bit_at-lt word b));
}
  where
    turned : (x : ℕ) → x < 2 → (1 - x == 1) ≡ not (beq (x == 1) true)
    turned zero h = refl
    turned (suc zero) h = refl
    turned (suc (suc x)) h = absurd (omega (arith, h))

pub other_zero : (word : ℕ) (bit : Bool) → bit ≡ false → IsOther word bit word
other_zero word bit e = record { each = λ b lt. rw e (same (has word b)) }
  where
    same : (t : Bool) → t ≡ not (beq t false)
    same true = refl
    same false = refl
