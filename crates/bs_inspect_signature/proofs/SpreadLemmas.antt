-- Moments behind the fronts, run by run.
use Rattle.std.proofs.Common.{◌≡◌, ℕ, ◌<◌, ◌≤◌, ◌+◌, ◌-◌, ◌*◌, ◌/◌, List, [], ◌++◌, length, get_or, drop, refl, ap, sym, ◌∙◌, arith}
use Rattle.std.proofs.lemmas.Nat.{row_fits}
use Rattle.std.proofs.Math.Nat.{div-lt_iff_lt-mul, mul_comm}
use Rattle.std.proofs.Math.ListN.{drop_of_length-le}
use Rattle.std.proofs.lemmas.List.{get_or_append_left, get_or-append_right, length-append, length-map, drop_more}
use Rattle.std.proofs.lemmas.List.FromFn.{get_or-map-range_with_len, length-map-range_with_len}
use Rattle.bs_stim.specs.Runs.{Recorded, Stimulus, inputs_of, run_at}
use Rattle.bs_scan.specs.Moments.{IsMoment, Moment, Run, moment, run_of}
use Rattle.bs_scan.proofs.CrashLemmas.{run_inputs}
use Rattle.bs_inspect_signature.specs.Spread.{count_behind, count_taken, front, later_from, later_moments, later_of, moment_taken, part_of, place_in}

later_long : (number : ℕ) (run : Run) → length (later_of number run) ≡ count_behind run
later_long number run = length-map-range_with_len (moment number) (front run + 1) (count_behind run)

-- the moments from a run on, with the run's own first
later_split : (s : Stimulus) (k : ℕ) → k < length (inputs_of s) →
    later_from (k + 1) (drop k (inputs_of s)) ≡ later_of (k + 1) (run_at s (k + 1)).inputs ++ later_from (k + 1 + 1) (drop (k + 1) (inputs_of s))
later_split s k lt =
    ap (later_from (k + 1)) (drop_more (inputs_of s) k [] lt)
    ∙ ap (λ (run : Run). later_of (k + 1) run ++ later_from (k + 1 + 1) (drop (k + 1) (inputs_of s))) (here)
  where
    here : get_or (inputs_of s) k [] ≡ (run_at s (k + 1)).inputs
    here = let place : k + 1 - 1 ≡ k = omega arith in sym (ap (λ (n : ℕ). get_or (inputs_of s) n []) place) ∙ run_inputs s (k + 1)

there_in : (s : Stimulus) (k : ℕ) → k < length s.runs → k < length (inputs_of s)
there_in s k lt = omega (arith, lt, length-map s.runs (λ (run : Recorded). run.inputs))

pub here_is : (s : Stimulus) (k left n : ℕ) → k < length s.runs → n ≡ count_behind (run_at s (k + 1)).inputs → left < n →
    get_or (later_from (k + 1) (drop k (inputs_of s))) left (moment 0 0) ≡ moment (k + 1) (front (run_at s (k + 1)).inputs + left + 1)
here_is s k left n lt e less =
    let run : Run = (run_at s (k + 1)).inputs in
    let inside : left < length (later_of (k + 1) run) = omega (arith, less, e, later_long (k + 1) run) in
    let own : left < count_behind run = omega (arith, less, e) in
    let place : front run + 1 + left ≡ front run + left + 1 = omega arith in
    ap (λ (ms : List Moment). get_or ms left (moment 0 0)) (later_split s k (there_in s k lt))
    ∙ (get_or_append_left (later_of (k + 1) run) (later_from (k + 1 + 1) (drop (k + 1) (inputs_of s))) (moment 0 0) left inside
    ∙ get_or-map-range_with_len (moment (k + 1)) (front run + 1) (count_behind run) left (front run + left + 1) (moment 0 0) own place)

pub behind_is : (s : Stimulus) (k left n rest : ℕ) → k < length s.runs → n ≡ count_behind (run_at s (k + 1)).inputs → n ≤ left → rest ≡ left - n →
    get_or (later_from (k + 1) (drop k (inputs_of s))) left (moment 0 0) ≡ get_or (later_from (k + 1 + 1) (drop (k + 1) (inputs_of s))) rest (moment 0 0)
behind_is s k left n rest lt e le is =
    let run : Run = (run_at s (k + 1)).inputs in
    ap (λ (ms : List Moment). get_or ms left (moment 0 0)) (later_split s k (there_in s k lt))
    ∙ (get_or-append_right (later_of (k + 1) run) (later_from (k + 1 + 1) (drop (k + 1) (inputs_of s))) n left (moment 0 0)
    (later_long (k + 1) run ∙ sym e) le
    ∙ ap (λ (i : ℕ). get_or (later_from (k + 1 + 1) (drop (k + 1) (inputs_of s))) i (moment 0 0)) (sym is))

pub count_here : (s : Stimulus) (k n : ℕ) → k < length s.runs → n ≡ count_behind (run_at s (k + 1)).inputs →
    length (later_from (k + 1) (drop k (inputs_of s))) ≡ n + length (later_from (k + 1 + 1) (drop (k + 1) (inputs_of s)))
count_here s k n lt e =
    let run : Run = (run_at s (k + 1)).inputs in
    ap length (later_split s k (there_in s k lt))
    ∙ (length-append (later_of (k + 1) run) (later_from (k + 1 + 1) (drop (k + 1) (inputs_of s)))
    ∙ ap (λ (m : ℕ). m + length (later_from (k + 1 + 1) (drop (k + 1) (inputs_of s)))) (later_long (k + 1) run ∙ sym e))

-- behind the last run there are none
none_behind : (s : Stimulus) (k : ℕ) → length s.runs ≤ k → later_from (k + 1) (drop k (inputs_of s)) ≡ []
none_behind s k le =
    ap (later_from (k + 1)) (drop_of_length-le (inputs_of s) (omega (arith, le, length-map s.runs (λ (run : Recorded). run.inputs))))

-- ---- how many

-- those of the first runs are counted
pub record CountSo (s : Stimulus) (k count : ℕ) : Type 0 where
  pub sum : count + length (later_from (k + 1) (drop k (inputs_of s))) ≡ length (later_moments (inputs_of s))
  pub few : count ≤ k * 65536

pub none_later : (s : Stimulus) (count : ℕ) → count ≡ 0 → CountSo s 0 count
none_later s count e = record { sum = ap (λ (n : ℕ). n + length (later_moments (inputs_of s))) e ∙ (omega arith); few = omega (arith, e) }

pub more_later : (s : Stimulus) (k n count after : ℕ) → k < length s.runs → n ≡ count_behind (run_at s (k + 1)).inputs → n ≤ 65536 → CountSo s k count →
    after ≡ count + n → CountSo s (k + 1) after
more_later s k n count after lt e few so goes = record {
  sum = omega (arith, goes, so.sum, count_here s k n lt e);
  few = omega (arith, goes, so.few, few);
}

pub all_later : (s : Stimulus) (k count : ℕ) → length s.runs ≤ k → CountSo s k count → count ≡ length (later_moments (inputs_of s))
all_later s k count le so = omega (arith, so.sum, ap length (none_behind s k le))

-- ---- which one

-- what is left of a place behind the first runs
pub record PlaceSo (s : Stimulus) (place k left : ℕ) : Type 0 where
  pub is : get_or (later_moments (inputs_of s)) place (moment 0 0) ≡ get_or (later_from (k + 1) (drop k (inputs_of s))) left (moment 0 0)
  pub there : left < length (later_from (k + 1) (drop k (inputs_of s)))

pub place_begin : (s : Stimulus) (place : ℕ) → place < length (later_moments (inputs_of s)) → PlaceSo s place 0 place
place_begin s place lt = record { is = refl; there = lt }

pub place_more : (s : Stimulus) (place k left n rest : ℕ) → k < length s.runs → n ≡ count_behind (run_at s (k + 1)).inputs → n ≤ left → rest ≡ left - n →
    PlaceSo s place k left → PlaceSo s place (k + 1) rest
place_more s place k left n rest lt e le is so = record {
  is = so.is ∙ behind_is s k left n rest lt e le is;
  there = omega (arith, so.there, count_here s k n lt e, is, le);
}

pub place_here : (s : Stimulus) (place k left n : ℕ) (m : Moment) → k < length s.runs → n ≡ count_behind (run_at s (k + 1)).inputs → left < n →
    m ≡ moment (k + 1) (front (run_at s (k + 1)).inputs + left + 1) → PlaceSo s place k left →
    m ≡ get_or (later_moments (inputs_of s)) place (moment 0 0)
place_here s place k left n m lt e less is so = is ∙ sym (so.is ∙ here_is s k left n lt e less)

-- a moment behind the front is within the run
within_run : (length front left n cycle : ℕ) → n ≡ length - front → left < n → cycle ≡ front + left + 1 → cycle ≤ length
within_run length front left n cycle e less c = omega (arith, e, less, c)

pub place_moment : (s : Stimulus) (k left n : ℕ) (m : Moment) → k < length s.runs → n ≡ count_behind (run_at s (k + 1)).inputs → left < n →
    m ≡ moment (k + 1) (front (run_at s (k + 1)).inputs + left + 1) → IsMoment (inputs_of s) m
place_moment s k left n m lt e less is = rw is record {
  from_one = omega arith;
  recorded = omega (arith, lt, length-map s.runs (λ (run : Recorded). run.inputs));
  lasts =
      let inside : front (run_at s (k + 1)).inputs + left + 1 ≤ length (run_at s (k + 1)).inputs =
      within_run (length (run_at s (k + 1)).inputs) (front (run_at s (k + 1)).inputs) left n (front (run_at s (k + 1)).inputs + left + 1) e less refl in
      omega (arith, inside, ap length (run_inputs s (k + 1)));
}

pub place_never : (s : Stimulus) (place k left : ℕ) → length s.runs ≤ k → PlaceSo s place k left → {A : Type 0} → A
place_never s place k left le so = absurd (omega (arith, so.there, ap length (none_behind s k le)))

-- the places that are taken are there
pub place_within : (all count k : ℕ) → k < count → count ≤ all → k * (count + 1) * all / (count * count) < all
place_within all count k lt le =
    let row : k * count + count ≤ count * count = row_fits k count count count lt (omega arith) in
    let split : k * (count + 1) ≡ k * count + k = grind arith in
    let below : k * (count + 1) < count * count = omega (arith, row, split, lt) in
    let fits : k * (count + 1) * all + all ≤ count * count * all = row_fits (k * (count + 1)) all (count * count) all below (omega arith) in
    let some : 0 < all = omega (arith, lt, le) in
    (div-lt_iff_lt-mul {k = count * count} {x = k * (count + 1) * all} {y = all} (omega (arith, below))).1
    (omega (arith, fits, some, mul_comm (count * count) all))

-- the moment at the place in a part
pub taken_is : (most : ℕ) (moments : List Moment) (m : Moment) (all taken part k : ℕ) → all ≡ length moments → taken ≡ count_taken most all →
    part ≡ part_of most taken k → m ≡ get_or moments (part * (taken + 1) * all / (taken * taken)) (moment 0 0) → m ≡ moment_taken most moments k
taken_is most moments m all taken part k long least in_part is =
    is
    ∙ ((λ i. get_or moments (place_in (long i) taken part) (moment 0 0))
    ∙ ap (λ (n : ℕ). get_or moments (place_in (length moments) n part) (moment 0 0)) by_count
    ∙ ap (λ (p : ℕ). get_or moments (place_in (length moments) (count_taken most (length moments)) p) (moment 0 0))
    (in_part ∙ ap (λ (n : ℕ). part_of most n k) by_count))
  where
    by_count : taken ≡ count_taken most (length moments)
    by_count = least ∙ ap (count_taken most) long
