-- Bits inverted and shifted one by one, and what is seen with other bits at the known places.
use Rattle.std.proofs.Common.{◌≡◌, ℕ, zero, suc, ◌<◌, ◌≤◌, ◌+◌, ◌-◌, Bool, true, false, not, List, [], ◌∷◌, ◌++◌, length, map, take, drop, get_or}
use Rattle.std.proofs.Common.{refl, ap, sym, subst, ◌∙◌, arith}
use Rattle.std.specs.Prelude.{All}
use Rattle.std.specs.List.{range_with_len}
use Rattle.std.proofs.lemmas.List.{length-map, map_more, take_all, take_more}
use Rattle.std.proofs.lemmas.List.FromFn.{length-range_with_len, map-range_with_len_more}
use Rattle.bs_net.specs.Circuit.{Circuit, reset_state}
use Rattle.bs_net.specs.declared.net.Flop.{Flop}
use Rattle.bs_scan.specs.declared.seen.Seen.{Seen}
use Rattle.bs_scan.specs.Seen.{kept, kept_one}
use Rattle.bs_scan.proofs.KeptLemmas.{kept_more, kept_nothing}
use Rattle.bs_inspect_near.specs.Counters.{one_if}
use Rattle.bs_inspect_near.specs.Distance.{is_free}
use Rattle.bs_inspect_near.specs.Hints.{asked, asked_by, bit_with, inverted, known_before, known_bits, shifted_back, shifted_on, with_known}
use Rattle.bs_inspect_near.proofs.CountLemmas.{count_push, count_within}

-- ---- inverted

pub inverted_more : (row bits after : List Bool) (i : ℕ) (b : Bool) → i < length row → bits ≡ map not (take i row) → b ≡ get_or row i false →
    after ≡ bits ++ not b ∷ [] → after ≡ map not (take (i + 1) row)
inverted_more row bits after i b lt e is goes = goes ∙ ((λ j. e j ++ not (is j) ∷ []) ∙ sym (map_more not row i false lt))

pub inverted_all : (row bits : List Bool) (i : ℕ) → length row ≤ i → bits ≡ map not (take i row) → bits ≡ inverted row
inverted_all row bits i le e = e ∙ ap (map not) (take_all i row le)

-- ---- a place further on

pub on_begin : (bit : Bool) (row none bits : List Bool) → none ≡ [] → bits ≡ none ++ bit ∷ [] → bits ≡ bit ∷ take 0 row
on_begin bit row none bits e goes = goes ∙ ap (λ (bs : List Bool). bs ++ bit ∷ []) e

pub on_more : (bit : Bool) (row bits after : List Bool) (i : ℕ) (b : Bool) → i < length row → bits ≡ bit ∷ take i row → b ≡ get_or row i false →
    after ≡ bits ++ b ∷ [] → after ≡ bit ∷ take (i + 1) row
on_more bit row bits after i b lt e is goes =
    goes ∙ ((λ j. e j ++ is j ∷ []) ∙ ap (λ (bs : List Bool). bit ∷ bs) (sym (take_more row i false lt)))

pub on_all : (bit : Bool) (row bits : List Bool) (i count : ℕ) → count ≡ length row - 1 → count ≤ i → i ≤ count → bits ≡ bit ∷ take i row →
    bits ≡ shifted_on bit row
on_all bit row bits i count is le ge e =
    let same : i ≡ length row - 1 = omega (arith, is, le, ge) in e ∙ ap (λ (n : ℕ). bit ∷ take n row) same

-- ---- a place before

pub back_begin : (row bits : List Bool) → bits ≡ [] → bits ≡ take 0 (drop 1 row)
back_begin row bits e = e

pub back_more : (row bits after : List Bool) (i : ℕ) (b : Bool) → i + 1 < length row → bits ≡ take i (drop 1 row) → b ≡ get_or row (i + 1) false →
    after ≡ bits ++ b ∷ [] → after ≡ take (i + 1) (drop 1 row)
back_more [] bits after i b lt e is goes = absurd (omega (arith, lt))
back_more (x ∷ row) bits after i b lt e is goes =
    let on : i + 1 ≡ suc i = omega arith in
    let here : b ≡ get_or row i false = is ∙ ap (λ (n : ℕ). get_or (x ∷ row) n false) on in
    let within : i < length row = omega (arith, lt) in
    goes ∙ ((λ j. e j ++ here j ∷ []) ∙ sym (take_more row i false within))

pub back_all : (bit : Bool) (row bits after : List Bool) (i count : ℕ) → count ≡ length row - 1 → count ≤ i → bits ≡ take i (drop 1 row) →
    after ≡ bits ++ bit ∷ [] → after ≡ shifted_back bit row
back_all bit row bits after i count is le e goes = goes ∙ ap (λ (bs : List Bool). bs ++ bit ∷ []) (e ∙ all row i (omega (arith, is, le)))
  where
    all : (bs : List Bool) (n : ℕ) → length bs - 1 ≤ n → take n (drop 1 bs) ≡ drop 1 bs
    all [] n h = take_all n [] (omega arith)
    all (b ∷ bs) n h = take_all n bs (omega (arith, h))

-- ---- the known bits

pub known_none : (seen : Seen) (none : List Bool) → none ≡ [] → none ≡ kept seen.free (take 0 seen.bits)
known_none seen none e = e ∙ sym (kept_nothing seen.free)

pub known_more : (seen : Seen) (known after : List Bool) (i : ℕ) (free bit : Bool) → i < length seen.bits → known ≡ kept seen.free (take i seen.bits) →
    free ≡ get_or seen.free i false → bit ≡ get_or seen.bits i false → after ≡ known ++ kept_one free bit →
    after ≡ kept seen.free (take (i + 1) seen.bits)
known_more seen known after i free bit lt e free_is is goes =
    goes ∙ ((λ j. e j ++ kept_one (free_is j) (is j)) ∙ sym (kept_more seen.free seen.bits i false lt))

pub known_all : (seen : Seen) (known : List Bool) (i : ℕ) → length seen.bits ≤ i → known ≡ kept seen.free (take i seen.bits) →
    known ≡ known_bits seen
known_all seen known i le e = e ∙ ap (kept seen.free) (take_all i seen.bits le)

-- ---- other bits at the known places

-- the first places have their bits, and so many of them are known
pub record WithSo (seen : Seen) (known : List Bool) (i next : ℕ) (bits : List Bool) : Type 0 where
  pub count : next ≡ known_before seen.free i
  pub few : next ≤ i
  pub is : bits ≡ map (bit_with seen known) (range_with_len 0 i)

pub with_begin : (seen : Seen) (known none : List Bool) → none ≡ [] → WithSo seen known 0 0 none
with_begin seen known none e = record { count = refl; few = omega arith; is = e }

pub with_more : (seen : Seen) (known bits after : List Bool) (i next r : ℕ) (free b : Bool) → free ≡ is_free seen i → r ≡ one_if (not free) →
    b ≡ bit_with seen known i → after ≡ bits ++ b ∷ [] → WithSo seen known i next bits → WithSo seen known (i + 1) (next + r) after
with_more seen known bits after i next r free b free_is one bit_is goes so = record {
  count = counted;
  few = omega (arith, counted, count_within (λ (p : ℕ). not (get_or seen.free p false)) (i + 1));
  is =
      goes
      ∙ ((λ j. so.is j ++ bit_is j ∷ [])
      ∙ sym (map-range_with_len_more (bit_with seen known) 0 i i (omega arith)));
}
  where
    counted : next + r ≡ known_before seen.free (i + 1)
    counted =
        (λ j. so.count j + (one ∙ ap (λ (t : Bool). one_if (not t)) free_is) j)
        ∙ sym (count_push (λ (p : ℕ). not (get_or seen.free p false)) i)

pub with_all : (seen : Seen) (known bits : List Bool) (i next : ℕ) → length seen.bits ≤ i → i ≤ length seen.bits → WithSo seen known i next bits →
    bits ≡ map (bit_with seen known) (range_with_len 0 (length seen.bits))
with_all seen known bits i next le ge so =
    let e : i ≡ length seen.bits = omega (arith, le, ge) in so.is ∙ ap (λ (n : ℕ). map (bit_with seen known) (range_with_len 0 n)) e

pub with_is : (seen other : Seen) (known : List Bool) → other.bits ≡ map (bit_with seen known) (range_with_len 0 (length seen.bits)) →
    other.free ≡ seen.free → other ≡ with_known seen known
unfolding with_known
with_is seen other known e is = λ j. record { bits = e j; free = is j }

with_wide : (seen : Seen) (known : List Bool) → length (with_known seen known).bits ≡ length seen.bits
unfolding with_known
with_wide seen known = length-map (range_with_len 0 (length seen.bits)) (bit_with seen known) ∙ length-range_with_len 0 (length seen.bits)

-- ---- what is asked

pub asked_is : (reset other known : List Bool) (seen : Seen) (states : List Seen) → reset ≡ other → known ≡ known_bits seen →
    states ≡ asked_by reset known seen → states ≡ asked other seen
asked_is reset other known seen states e these is = is ∙ (λ i. asked_by (e i) (these i) seen)

pub asked_wide : (c : Circuit) (reset known : List Bool) (seen : Seen) (states : List Seen) → length seen.bits ≡ length c.flops → reset ≡ reset_state c →
    states ≡ asked_by reset known seen → All (λ s. length s.bits ≡ length c.flops) states
asked_wide c reset known seen states size r e = subst (All (λ (s : Seen). length s.bits ≡ length c.flops)) (sym e) all
  where
    all : All (λ (s : Seen). length s.bits ≡ length c.flops) (asked_by reset known seen)
    all zero d lt = size
    all (suc zero) d lt = with_wide seen (inverted known) ∙ size
    all (suc (suc zero)) d lt = with_wide seen (shifted_back false known) ∙ size
    all (suc (suc (suc zero))) d lt = with_wide seen (shifted_back true known) ∙ size
    all (suc (suc (suc (suc zero)))) d lt = with_wide seen (shifted_on false known) ∙ size
    all (suc (suc (suc (suc (suc zero))))) d lt = with_wide seen (shifted_on true known) ∙ size
    all (suc (suc (suc (suc (suc (suc zero)))))) d lt = length-map reset not ∙ (ap length r ∙ length-map c.flops (λ (f : Flop). f.reset))
    all (suc (suc (suc (suc (suc (suc (suc i))))))) d lt = absurd (omega (arith, lt))
