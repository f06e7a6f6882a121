-- In how many known bits the states of 64 lanes differ, place by place.
use Rattle.std.proofs.Common.{◌≡◌, ℕ, zero, suc, ◌<◌, ◌≤◌, ◌+◌, ◌-◌, ◌*◌, ◌/◌, ◌%◌, ◌^◌, Bool, true, false, not, cond, List, length, replicate, get_or}
use Rattle.std.proofs.Common.{refl, ap, sym, subst, ◌∙◌, arith}
use Rattle.std.specs.Prelude.{◌==◌, ◌&&◌, count_by}
use Rattle.std.specs.Bool.{beq}
use Rattle.std.specs.Int.{bit_at}
use Rattle.std.specs.List.{range_with_len}
use Rattle.std.proofs.lemmas.List.{get_or_default, length-replicate}
use Rattle.std.proofs.lemmas.List.Sums.{count_by-le-length, sum_by_push}
use Rattle.std.proofs.lemmas.List.FromFn.{length-range_with_len}
use Rattle.std.proofs.lemmas.Nat.{row_fits}
use Rattle.bs_bits.proofs.RangeLemmas.{range_push}
use Rattle.bs_break.specs.Masks.{has}
use Rattle.bs_break.proofs.MaskLemmas.{nothing}
use Rattle.bs_net.specs.declared.limits.TheConstants.{MAX_FLOPS}
use Rattle.bs_scan.specs.declared.seen.Seen.{Seen}
use Rattle.bs_lanes.specs.Planes.{bit_place, lane}
use Rattle.bs_lanes.proofs.PlaneLemmas.{lane_at}
use Rattle.bs_inspect_near.specs.Counters.{Adds, AddsFour, IsOther, lane_count, one_if}
use Rattle.bs_inspect_near.specs.Distance.{differs}
use Rattle.bs_inspect_near.specs.Visited.{IsCount, ShowsPlace}
use Rattle.bs_inspect_near.specs.declared.distances.TheConstants.{DIGITS}

-- ---- a range and a place more

pub count_push : (p : ℕ → Bool) (n : ℕ) → count_by p (range_with_len 0 (n + 1)) ≡ count_by p (range_with_len 0 n) + one_if (p n)
count_push p n =
    ap (count_by p) (range_push n)
    ∙ (sum_by_push (λ (k : ℕ). cond (p k) 1 0) (range_with_len 0 n) n ∙ ap (λ (r : ℕ). count_by p (range_with_len 0 n) + r) (one (p n)))
  where
    one : (t : Bool) → cond t 1 0 ≡ one_if t
    one true = refl
    one false = refl

pub count_within : (p : ℕ → Bool) (n : ℕ) → count_by p (range_with_len 0 n) ≤ n
count_within p n = omega (arith, count_by-le-length p (range_with_len 0 n), length-range_with_len 0 n)

-- ---- a word

pub word_fits : (place wide word flops size : ℕ) → place < flops → word < wide → size ≡ flops * wide → place * wide + word < size
word_fits place wide word flops size lt small e = omega (arith, row_fits place wide flops wide lt (omega arith), small, e)

-- the bit of a lane stands in a word of the planes
pub lane_bit : (planes : List ℕ) (wide word count place b : ℕ) → b < 64 → place < count →
    get_or (lane wide count planes (word * 64 + b)) place false ≡ has (get_or planes (place * wide + word) 0) b
lane_bit planes wide word count place b small lt =
    let at : bit_place wide place (word * 64 + b) / 64 ≡ place * wide + word = omega (arith, small) in
    let low : bit_place wide place (word * 64 + b) % 64 ≡ b = omega (arith, small) in
    lane_at wide count planes (word * 64 + b) place lt ∙ (λ i. bit_at (get_or planes (at i) 0) (low i) == 1)

-- ---- place by place

zeros_count : (n b : ℕ) → lane_count (replicate n 0) b ≡ 0
zeros_count zero b = refl
zeros_count (suc n) b = (λ i. one_if (nothing b i) + 2 * zeros_count n b i)

pub count_begin : (planes : List ℕ) (wide word : ℕ) (seen : Seen) (digits : List ℕ) → digits ≡ replicate DIGITS 0 →
    IsCount planes wide word seen 0 digits
count_begin planes wide word seen digits e = record {
  size = ap length e ∙ length-replicate {A = ℕ} DIGITS 0;
  each = λ b small. ap (λ (ws : List ℕ). lane_count ws b) e ∙ zeros_count DIGITS b;
}

-- a place whose bit is not known
pub place_free : (planes : List ℕ) (wide word : ℕ) (seen : Seen) (place : ℕ) (free : Bool) → free ≡ get_or seen.free place false → free ≡ true →
    ShowsPlace planes wide word seen place 0
place_free planes wide word seen place free is unknown = record {
  each = λ b small.
      let state : List Bool = lane wide (length seen.bits) planes (word * 64 + b) in
      nothing b ∙ sym (ap (λ (t : Bool). not t && not (beq (get_or state place false) (get_or seen.bits place false))) (sym is ∙ unknown));
}

-- a place whose bit is known
pub place_shown : (planes : List ℕ) (wide word : ℕ) (seen : Seen) (place w mask : ℕ) (bit free : Bool) → place < length seen.bits → word < wide →
    length planes ≡ length seen.bits * wide → free ≡ get_or seen.free place false → free ≡ false → w ≡ get_or planes (place * wide + word) w →
    bit ≡ get_or seen.bits place false → IsOther w bit mask → ShowsPlace planes wide word seen place mask
place_shown planes wide word seen place w mask bit free lt low size free_is known at is other = record {
  each = λ b small.
      let state : List Bool = lane wide (length seen.bits) planes (word * 64 + b) in
      let here : get_or planes (place * wide + word) 0 ≡ w =
      sym (at ∙ get_or_default planes (place * wide + word) w 0 (word_fits place wide word (length seen.bits) (length planes) lt low size)) in
      let same : has mask b ≡ not (beq (get_or state place false) (get_or seen.bits place false)) =
      other.each b small
      ∙ sym (λ j. not (beq ((lane_bit planes wide word (length seen.bits) place b small lt ∙ ap (λ (v : ℕ). has v b) here) j) (sym is j))) in
      same ∙ sym (ap (λ (t : Bool). not t && not (beq (get_or state place false) (get_or seen.bits place false))) (sym free_is ∙ known));
}

pub count_more : (planes : List ℕ) (wide word : ℕ) (seen : Seen) (i mask : ℕ) (old new : List ℕ) → i < length seen.bits → length seen.bits ≤ MAX_FLOPS →
    ShowsPlace planes wide word seen i mask → Adds old mask new → IsCount planes wide word seen i old → IsCount planes wide word seen (i + 1) new
count_more planes wide word seen i mask old new lt few shows adds so = record {
  size = adds.size ∙ so.size;
  each = λ b small.
      let p : ℕ → Bool = differs (lane wide (length seen.bits) planes (word * 64 + b)) seen in
      let full : 8192 ≡ 2 ^ length old = ap (λ (n : ℕ). 2 ^ n) (sym so.size) in
      let room : lane_count old b + 1 < 2 ^ length old = omega (arith, so.each b small, count_within p i, lt, few, full) in
      adds.each b small room ∙ ((λ j. so.each b small j + one_if (shows.each b small j)) ∙ sym (count_push p i));
}

-- ---- four places at once

pub fours_begin : (planes : List ℕ) (wide word : ℕ) (seen : Seen) (digits : List ℕ) → digits ≡ replicate DIGITS 0 →
    IsCount planes wide word seen (4 * 0) digits
fours_begin planes wide word seen digits e = count_begin planes wide word seen digits e

pub fours_room : (planes : List ℕ) (wide word : ℕ) (seen : Seen) (n : ℕ) (digits : List ℕ) → IsCount planes wide word seen n digits →
    2 ≤ length digits
fours_room planes wide word seen n digits so = omega (arith, so.size)

count_four : (p : ℕ → Bool) (n a b c : ℕ) → a ≡ n + 1 → b ≡ n + 2 → c ≡ n + 3 →
    count_by p (range_with_len 0 (n + 4)) ≡ count_by p (range_with_len 0 n) + (one_if (p n) + (one_if (p a) + (one_if (p b) + one_if (p c))))
count_four p n a b c e f g =
    let count : ℕ → ℕ = λ (m : ℕ). count_by p (range_with_len 0 m) in
    let fourth : n + 4 ≡ c + 1 = omega (arith, g) in
    let at_c : c ≡ b + 1 = omega (arith, f, g) in
    let at_b : b ≡ a + 1 = omega (arith, e, f) in
    let last : count (n + 4) ≡ count c + one_if (p c) = ap count fourth ∙ count_push p c in
    let third : count c ≡ count b + one_if (p b) = ap count at_c ∙ count_push p b in
    let second : count b ≡ count a + one_if (p a) = ap count at_b ∙ count_push p a in
    let first : count a ≡ count n + one_if (p n) = ap count e ∙ count_push p n in
    omega (arith, last, third, second, first)

pub fours_more : (planes : List ℕ) (wide word : ℕ) (seen : Seen) (k a b c d : ℕ) (old new : List ℕ) → 4 * k + 3 < length seen.bits →
    length seen.bits ≤ MAX_FLOPS → ShowsPlace planes wide word seen (4 * k) a → ShowsPlace planes wide word seen (4 * k + 1) b →
    ShowsPlace planes wide word seen (4 * k + 2) c → ShowsPlace planes wide word seen (4 * k + 3) d → AddsFour old a b c d new →
    IsCount planes wide word seen (4 * k) old → IsCount planes wide word seen (4 * (k + 1)) new
fours_more planes wide word seen k a b c d old new lt few first second third fourth adds so = record {
  size = adds.size ∙ so.size;
  each = λ l small.
      let p : ℕ → Bool = differs (lane wide (length seen.bits) planes (word * 64 + l)) seen in
      let full : 8192 ≡ 2 ^ length old = ap (λ (n : ℕ). 2 ^ n) (sym so.size) in
      let room : lane_count old l + 4 < 2 ^ length old = omega (arith, so.each l small, count_within p (4 * k), lt, few, full) in
      let next : 4 * (k + 1) ≡ 4 * k + 4 = omega arith in
      adds.each l small room
      ∙ ((λ j. so.each l small j + (one_if (first.each l small j) + (one_if (second.each l small j) + (one_if (third.each l small j) + one_if (fourth.each l small j)))))
      ∙ (sym (count_four p (4 * k) (4 * k + 1) (4 * k + 2) (4 * k + 3) refl refl refl)
      ∙ ap (λ (n : ℕ). count_by p (range_with_len 0 n)) (sym next)));
}

pub fours_all : (planes : List ℕ) (wide word : ℕ) (seen : Seen) (k fours : ℕ) (digits : List ℕ) → fours ≡ length seen.bits / 4 → fours ≤ k → k ≤ fours →
    IsCount planes wide word seen (4 * k) digits → IsCount planes wide word seen (4 * (length seen.bits / 4)) digits
fours_all planes wide word seen k fours digits e le ge so =
    let same : k ≡ length seen.bits / 4 = omega (arith, e, le, ge) in subst (λ (n : ℕ). IsCount planes wide word seen (4 * n) digits) same so

pub rest_begin : (planes : List ℕ) (wide word : ℕ) (seen : Seen) (start : ℕ) (digits : List ℕ) → start ≡ 4 * (length seen.bits / 4) →
    IsCount planes wide word seen (4 * (length seen.bits / 4)) digits → IsCount planes wide word seen start digits
rest_begin planes wide word seen start digits e so = subst (λ (n : ℕ). IsCount planes wide word seen n digits) (sym e) so

pub count_all : (planes : List ℕ) (wide word : ℕ) (seen : Seen) (i : ℕ) (digits : List ℕ) → length seen.bits ≤ i → i ≤ length seen.bits →
    IsCount planes wide word seen i digits → IsCount planes wide word seen (length seen.bits) digits
count_all planes wide word seen i digits le ge so =
    let e : i ≡ length seen.bits = omega (arith, le, ge) in subst (λ (n : ℕ). IsCount planes wide word seen n digits) e so
