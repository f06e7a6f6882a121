-- Values that are gathered one after another.
use Rattle.std.proofs.Common.{◌≡◌, ◌≢◌, ℕ, zero, suc, ◌<◌, ◌≤◌, ◌+◌, ◌-◌, ◌^◌, Bool, true, false, not, ◌&&◌, ◌||◌, List, [], ◌∷◌, ◌++◌, length, get_or}
use Rattle.std.proofs.Common.{refl, ap, sym, subst, ◌∙◌, ◌⊎◌, inl, inr, arith}
use Rattle.std.specs.Prelude.{◌==◌, nat_le, nat_lt, All}
use Rattle.std.specs.Bool.{beq}
use Rattle.std.specs.Int.{trailing_zeros, w64}
use Rattle.std.proofs.lemmas.Bool.{and_parts, cases_lt, eq-eqb, leb-true, ltb-true, true≢false}
use Rattle.std.proofs.lemmas.List.{get_or_append_left, get_or_default, get_or_push, length-map, length_push}
use Rattle.std.proofs.lemmas.List.Folds.{list_any-append}
use Rattle.std.proofs.lemmas.Nat.Bits.{bit_at-trailing_zeros, bit_at-zero}
use Rattle.bs_net.specs.Circuit.{Circuit}
use Rattle.bs_bits.specs.Bits.{bits_eq}
use Rattle.bs_stim.specs.Packing.{bit_in}
use Rattle.bs_lanes.specs.Planes.{bit_place, lane}
use Rattle.bs_break.specs.Masks.{has}
use Rattle.bs_scan.specs.Moments.{IsMoment, Run, is_listed, moment, run_of, state_at}
use Rattle.bs_inspect_near.specs.declared.novelty.TheConstants.{MAX_VALUES}
use Rattle.bs_inspect_near.specs.Values.{AreElsewhere, EachOnce, IsElsewhere, state_bit, value_at, value_in}
use Rattle.bs_inspect_near.specs.Shown.{Grows, IsFull, IsMask, Misses, ShowsWords, is_viewed, lane_run, words_value}
use Rattle.bs_inspect_near.proofs.LookLemmas.{bit_beyond, bit_shown}

-- ---- a value

pub bit_there : (words : List ℕ) (place k : ℕ) (b : Bool) → place < length words → b ≡ bit_in words (bit_place 1 place k) →
    b ≡ state_bit (lane 1 (length words) words k) place
bit_there words place k b lt e = e ∙ sym (bit_shown words place k lt)

pub bit_past : (words : List ℕ) (place k : ℕ) → length words ≤ place → false ≡ state_bit (lane 1 (length words) words k) place
bit_past words place k le = sym (bit_beyond words place k le)

-- ---- what a lane that is looked at shows

-- such a lane has a run
pub record HasRun (runs : List Run) (first number cycle k : ℕ) : Type 0 where
  pub there : first + k < length runs
  pub differs : first + k + 1 ≢ number
  pub lasts : cycle ≤ length (lane_run runs first k)

pub viewed_run : (runs : List Run) (first number cycle k : ℕ) → is_viewed runs first number cycle k ≡ true → HasRun runs first number cycle k
viewed_run runs first number cycle k viewed =
    let outer = and_parts (nat_lt (first + k) (length runs)) (not (first + k + 1 == number) && nat_le cycle (length (lane_run runs first k))) viewed in
    let inner = and_parts (not (first + k + 1 == number)) (nat_le cycle (length (lane_run runs first k))) outer.1 in
    record {
      there = ltb-true (first + k) (length runs) outer.0;
      differs = λ e. true≢false (sym inner.0 ∙ ap not (eq-eqb (first + k + 1) number e));
      lasts = leb-true cycle (length (lane_run runs first k)) inner.1;
    }

-- the value that a lane shows is that of its run
pub words_are : (c : Circuit) (runs : List Run) (first cycle : ℕ) (words places : List ℕ) (k run : ℕ) → ShowsWords c runs first words cycle → k < 64 →
    first + k < length runs → cycle ≤ length (lane_run runs first k) → run ≡ first + k + 1 → words_value places words k ≡ value_at c runs places run cycle
words_are c runs first cycle words places k run shows small there lasts number =
    let place : run - 1 ≡ first + k = omega (arith, number) in
    (λ i. value_in (lane 1 (shows.size i) words k) places)
    ∙ (ap (λ (s : List Bool). value_in s places) (shows.each k small there lasts)
    ∙ ap (λ (n : ℕ). value_in (state_at c (get_or runs n []) cycle) places) (sym place))

lane_moment : (runs : List Run) (first k cycle : ℕ) → first + k < length runs → cycle ≤ length (lane_run runs first k) →
    IsMoment runs (moment (first + k + 1) cycle)
lane_moment runs first k cycle there lasts =
    let place : first + k ≡ first + k + 1 - 1 = omega arith in
    record {
      from_one = omega arith;
      recorded = omega (arith, there);
      lasts = subst (λ (n : ℕ). cycle ≤ length (get_or runs n [])) place lasts;
    }

-- a value that a lane shows is one of another run
pub lane_elsewhere : (c : Circuit) (runs : List Run) (first number cycle : ℕ) (words places : List ℕ) (mask k : ℕ) →
    ShowsWords c runs first words cycle → IsMask runs first number cycle mask → k < 64 → has mask k ≡ true →
    IsElsewhere c runs number places (words_value places words k)
lane_elsewhere c runs first number cycle words places mask k shows is small on =
    let run = viewed_run runs first number cycle k (sym (is.each k small) ∙ on) in
    record {
      at = moment (first + k + 1) cycle;
      moment = lane_moment runs first k cycle run.there run.lasts;
      other = run.differs;
      same = sym (words_are c runs first cycle words places k (first + k + 1) shows small run.there run.lasts refl);
    }

-- ---- a value more

bits_itself : (a : List Bool) → bits_eq a a ≡ true
bits_itself [] = refl
bits_itself (true ∷ as2) = bits_itself as2
bits_itself (false ∷ as2) = bits_itself as2

beq_turned : (a b : Bool) → beq a b ≡ beq b a
beq_turned true true = refl
beq_turned true false = refl
beq_turned false true = refl
beq_turned false false = refl

bits_turned : (a b : List Bool) → bits_eq a b ≡ bits_eq b a
bits_turned [] [] = refl
bits_turned [] (b ∷ bs) = refl
bits_turned (a ∷ as2) [] = refl
bits_turned (a ∷ as2) (b ∷ bs) = rw (beq_turned a b, bits_turned as2 bs) refl

or_second : (a b : Bool) → b ≡ true → (a || b) ≡ true
or_second true b e = refl
or_second false b e = e

-- a value that stands at a place is listed
listed_at : (values : List (List Bool)) (i : ℕ) (v : List Bool) → i < length values → bits_eq v (get_or values i []) ≡ true → is_listed values v ≡ true
listed_at [] i v lt e = absurd (omega (arith, lt))
listed_at (w ∷ values) zero v lt e = ap (λ (b : Bool). b || is_listed values v) e
listed_at (w ∷ values) (suc i) v lt e = or_second (bits_eq v w) (is_listed values v) (listed_at values i v (omega (arith, lt)) e)

not_at : (values : List (List Bool)) (i : ℕ) (v : List Bool) → is_listed values v ≡ false → i < length values → bits_eq v (get_or values i []) ≡ true → ⊥
not_at values i v isnt lt e = true≢false (sym (listed_at values i v lt e) ∙ isnt)

once_put : (values : List (List Bool)) (v : List Bool) → EachOnce values → is_listed values v ≡ false → EachOnce (values ++ v ∷ [])
once_put values v once isnt = record { is = λ i j li lj e. by i j li lj e (cases_lt i (length values)) (cases_lt j (length values)) }
  where
    all : List (List Bool)
    all = values ++ v ∷ []

    at_end : (i : ℕ) → i < length all → length values ≤ i → get_or all i [] ≡ v
    at_end i lt le = get_or_push values v [] i (omega (arith, lt, le, length_push values v))

    by : (i j : ℕ) → i < length all → j < length all → bits_eq (get_or all i []) (get_or all j []) ≡ true → (i < length values) ⊎ (length values ≤ i) →
        (j < length values) ⊎ (length values ≤ j) → i ≡ j
    by i j li lj e (inl a) (inl b) =
        once.is i j a b
        (sym (λ t. bits_eq (get_or_append_left values (v ∷ []) [] i a t) (get_or_append_left values (v ∷ []) [] j b t)) ∙ e)
    by i j li lj e (inl a) (inr b) =
        absurd (not_at values i v isnt a
        (bits_turned v (get_or values i [])
        ∙ (sym (λ t. bits_eq (get_or_append_left values (v ∷ []) [] i a t) (at_end j lj b t)) ∙ e)))
    by i j li lj e (inr a) (inl b) =
        absurd (not_at values j v isnt b (sym (λ t. bits_eq (at_end i li a t) (get_or_append_left values (v ∷ []) [] j b t)) ∙ e))
    by i j li lj e (inr a) (inr b) = omega (arith, li, lj, a, b, length_push values v)

pub listed_left : (values : List (List Bool)) (v w : List Bool) → is_listed values w ≡ true → is_listed (values ++ v ∷ []) w ≡ true
listed_left values v w e = list_any-append (bits_eq w) values (v ∷ []) ∙ ap (λ (b : Bool). b || (bits_eq w v || false)) e

elsewhere_put : (c : Circuit) (runs : List Run) (number : ℕ) (places : List ℕ) (values : List (List Bool)) (v : List Bool) →
    AreElsewhere c runs number places values → IsElsewhere c runs number places v → is_listed values v ≡ false →
    AreElsewhere c runs number places (values ++ v ∷ [])
elsewhere_put c runs number places values v are is new = record {
  each = λ i lt. by i lt (cases_lt i (length values));
  once = once_put values v are.once new;
}
  where
    by : (i : ℕ) → i < length (values ++ v ∷ []) → (i < length values) ⊎ (length values ≤ i) →
        IsElsewhere c runs number places (get_or (values ++ v ∷ []) i [])
    by i lt (inl less) = subst (IsElsewhere c runs number places) (sym (get_or_append_left values (v ∷ []) [] i less)) (are.each i less)
    by i lt (inr le) =
        subst (IsElsewhere c runs number places) (sym (get_or_push values v [] i (omega (arith, lt, le, length_push values v)))) is

pub elsewhere_wide : (c : Circuit) (runs : List Run) (number : ℕ) (places : List ℕ) (values : List (List Bool)) →
    AreElsewhere c runs number places values → All (λ v. length v ≡ length places) values
elsewhere_wide c runs number places values are = λ k d lt.
    let is = are.each k lt in
    ap length (get_or_default values k d [] lt)
    ∙ (sym (ap length is.same) ∙ length-map places (state_bit (state_at c (run_of runs is.at.run) is.at.cycle)))

-- ---- the values that lanes show

-- what is gathered so far
pub record SetSo (c : Circuit) (runs : List Run) (number : ℕ) (places : List ℕ) (old : List (List Bool)) (turn : ℕ) (values : List (List Bool)) : Type 0 where
  pub elsewhere : AreElsewhere c runs number places values
  pub grows : Grows old values
  pub many : turn ≤ length values

pub set_begin : (c : Circuit) (runs : List Run) (number : ℕ) (places : List ℕ) (values : List (List Bool)) →
    AreElsewhere c runs number places values → SetSo c runs number places values 0 values
set_begin c runs number places values are = record {
  elsewhere = are;
  grows = record { longer = omega arith; listed = λ v e. e };
  many = omega arith;
}

-- the lowest lane that is left
pub lane_small : (left : ℕ) → 0 < left → left < 2 ^ 64 → trailing_zeros w64 left < 64
lane_small left some small = (bit_at-trailing_zeros w64 left some small).0

pub lane_one : (left : ℕ) → 0 < left → left < 2 ^ 64 → has left (trailing_zeros w64 left) ≡ true
lane_one left some small = ap (λ (n : ℕ). n == 1) (bit_at-trailing_zeros w64 left some small).1

pub set_more : (c : Circuit) (runs : List Run) (first number cycle : ℕ) (words places : List ℕ) (mask left k turn : ℕ)
    (old values after : List (List Bool)) → ShowsWords c runs first words cycle → IsMask runs first number cycle mask →
    SetSo c runs number places old turn values → Misses values words places mask left → k < 64 → has left k ≡ true →
    after ≡ values ++ words_value places words k ∷ [] → SetSo c runs number places old (turn + 1) after
set_more c runs first number cycle words places mask left k turn old values after shows is so misses small one goes =
    let v : List Bool = words_value places words k in
    let both = and_parts (has mask k) (not (is_listed values v)) (sym (misses.each k small) ∙ one) in
    subst (SetSo c runs number places old (turn + 1)) (sym goes)
    (record {
      elsewhere =
          elsewhere_put c runs number places values v so.elsewhere
          (lane_elsewhere c runs first number cycle words places mask k shows is small both.0) (no_is (is_listed values v) both.1);
      grows = record {
        longer = omega (arith, so.grows.longer, length_push values v);
        listed = λ w e. listed_left values v w (so.grows.listed w e);
      };
      many = omega (arith, so.many, length_push values v);
    })
  where
    no_is : (b : Bool) → not b ≡ true → b ≡ false
    no_is false f = refl
    no_is true f = absurd cc

pub set_full : (words places : List ℕ) (mask left : ℕ) (values : List (List Bool)) → Misses values words places mask left → left ≡ 0 →
    IsFull words places mask values
set_full words places mask left values misses none = record {
  is = λ few. record { each = λ k small on. double_no (is_listed values (words_value places words k)) (off k small on) };
}
  where
    double_no : (b : Bool) → not b ≡ false → b ≡ true
    double_no true f = refl
    double_no false f = absurd cc

    off : (k : ℕ) → k < 64 → has mask k ≡ true → not (is_listed values (words_value places words k)) ≡ false
    off k small on =
        sym (ap (λ (b : Bool). b && not (is_listed values (words_value places words k))) on)
        ∙ (sym (misses.each k small) ∙ (ap (λ (n : ℕ). has n k) none ∙ ap (λ (n : ℕ). n == 1) (bit_at-zero k)))

pub set_many : (c : Circuit) (runs : List Run) (number : ℕ) (words places : List ℕ) (mask turn : ℕ) (old values : List (List Bool)) → MAX_VALUES + 1 ≤ turn →
    SetSo c runs number places old turn values → IsFull words places mask values
set_many c runs number words places mask turn old values le so = record { is = λ few. absurd (omega (arith, few, le, so.many)) }

pub set_wide : (c : Circuit) (runs : List Run) (number : ℕ) (places : List ℕ) (turn : ℕ) (old values : List (List Bool)) →
    SetSo c runs number places old turn values → All (λ v. length v ≡ length places) values
set_wide c runs number places turn old values so = elsewhere_wide c runs number places values so.elsewhere

pub set_elsewhere : (c : Circuit) (runs : List Run) (number : ℕ) (places : List ℕ) (turn : ℕ) (old values : List (List Bool)) →
    SetSo c runs number places old turn values → AreElsewhere c runs number places values
set_elsewhere c runs number places turn old values so = so.elsewhere

pub set_grows : (c : Circuit) (runs : List Run) (number : ℕ) (places : List ℕ) (turn : ℕ) (old values : List (List Bool)) →
    SetSo c runs number places old turn values → Grows old values
set_grows c runs number places turn old values so = so.grows
