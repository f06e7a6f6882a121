-- Run after run, and cycle after cycle.
use Rattle.std.proofs.Common.{◌≡◌, ◌≢◌, ℕ, zero, ◌+◌, ◌-◌, ◌<◌, ◌≤◌, Bool, true, false, List, [], ◌∷◌, ◌++◌, length, refl, ap, subst, sym, ◌∙◌, arith, ⊎_elim}
use Rattle.std.proofs.Common.{Option}
use Rattle.std.specs.Prelude.{◌&&◌, suc, cond, nat_le, sum_by, Result, Ok, Err, IfOk}
use Rattle.std.specs.List.{range_with_len}
use Rattle.std.specs.Option.{option_to_list}
use Rattle.std.proofs.lemmas.Bool.{and_from, and_parts, cases_eq, cases_lt, le-leb}
use Rattle.std.proofs.lemmas.List.Sums.{sum_by_push}
use Rattle.bs_bits.specs.Bits.{bits_eq}
use Rattle.bs_scan.specs.declared.seen.Seen.{Seen}
use Rattle.bs_scan.specs.Seen.{is_shown}
use Rattle.bs_scan.proofs.SeenLemmas.{shows_where}
use Rattle.bs_net.specs.Circuit.{Circuit, all_bits}
use Rattle.bs_scan.specs.Choice.{Chosen, depth_of}
use Rattle.bs_scan.specs.Crash.{Recording}
use Rattle.bs_scan.specs.Moments.{Moment, moment, IsMoment, run_of, state_at, is_listed}
use Rattle.bs_scan.specs.Signature.{signature, may_hold, agrees, some_input_shows, predecessors}
use Rattle.bs_scan.proofs.SignatureLemmas.{bits_same_is}
use Rattle.std.proofs.lemmas.List.Elements.{recursion_from_All}
use Rattle.bs_net.specs.Circuit.{next}
use Rattle.bs_net.proofs.CallerLemmas.{all_bits_widths}
use Rattle.bs_scan.proofs.MomentLemmas.{each_member}
use Rattle.bs_report.proofs.GoodLemmas.{listed_member, filter_member, passing, Passing}
use Rattle.bs_preimage_recorded.specs.Finder.{LeadsPast, NonePassBefore}
use Rattle.bs_chip.specs.Lockstep.{IsLongest, IsLowest, NoneAmong, NoneBefore}
use Rattle.bs_chip.specs.Replay.{lists}
use Rattle.bs_chip.specs.SignatureHashes.{signature_at, is_alike, NoneAlike, IsNextAlike}
use Rattle.bs_chip.proofs.TrackLemmas.{behind_all}
use Rattle.bs_preimage.specs.declared.probe.Probed.{Probed}
use Rattle.bs_preimage.specs.declared.probe.Probed.TheVariants.{Predecessor, NoPredecessor, Unknown}
use Rattle.bs_preimage.specs.Probe.{IsProbed}
use Rattle.bs_preimage_recorded.specs.declared.search.Recorded.{Recorded}
use Rattle.bs_preimage_recorded.specs.declared.search.Sought.{Sought}
use Rattle.bs_preimage_recorded.specs.declared.search.Sought.TheVariants.{Found, NoMoment, Cut, Unsaid}
use Rattle.bs_preimage_recorded.specs.declared.search.RunResult.TheVariants.{GoOn}
use Rattle.bs_preimage_recorded.specs.Search.{asked_in, is_recorded, alike_at, alike_below, alike_before, turn_by, HasTried, HasTurned, IsCutAt, IsUnknownAt}
use Rattle.bs_preimage_recorded.specs.Search.{IsOpenAt, SoughtAt, SoughtBefore, SoughtSooner, SoughtOfAll, TurnsTo, IsFirstRecorded, StaysOpen}

-- ---- a state with another signature

-- a predecessor has the stored signature
has_signature : (c : Circuit) (choice : Chosen) (p : Seen) (s stored : List Bool) (older : List (List Bool)) →
    is_listed (predecessors c choice p (stored ∷ older)) s ≡ true → signature choice s ≡ stored
unfolding predecessors
has_signature c choice p s stored older there =
    let found = filter_member (λ (s : List Bool). agrees c choice (stored ∷ older) s && some_input_shows c s p) s (all_bits (length c.flops))
    (listed_member s (predecessors c choice p (stored ∷ older)) there) in
    let tests = and_parts (agrees c choice (stored ∷ older) s) (some_input_shows c s p) found.0 in
    bits_same_is (signature choice s) stored (and_parts (bits_eq (signature choice s) stored) (may_hold c choice (depth_of choice - 1) older s) tests.0).0

other_signature : (r : Recording) (present : Seen) (stored : List Bool) (older : Option (List Bool)) (run cycle : ℕ) → signature_at r run cycle ≢ stored →
    lists r.circuit (run_of r.runs run) (asked_in r present stored older) cycle ≡ false
other_signature r present stored older run cycle other = by (lists r.circuit (run_of r.runs run) (asked_in r present stored older) cycle) refl
  where
    by : (b : Bool) → lists r.circuit (run_of r.runs run) (asked_in r present stored older) cycle ≡ b →
        lists r.circuit (run_of r.runs run) (asked_in r present stored older) cycle ≡ false
    by false is = is
    by true is =
        absurd (other (has_signature r.circuit r.choice present (state_at r.circuit (run_of r.runs run) cycle) stored (option_to_list older) is))

none_among : (r : Recording) (present : Seen) (stored : List Bool) (older : Option (List Bool)) (cycle from below : ℕ) → NoneAlike r stored cycle from below →
    NoneAmong r.circuit r.runs (asked_in r present stored older) cycle from below
none_among r present stored older cycle from below none =
    record { each = λ n lo hi there last. other_signature r present stored older n cycle (none.each n lo hi there last) }

-- ---- a state that leads elsewhere

-- some input leads from a predecessor to the present
is_led : (c : Circuit) (choice : Chosen) (p : Seen) (s : List Bool) (stored : List (List Bool)) → is_listed (predecessors c choice p stored) s ≡ true →
    some_input_shows c s p ≡ true
unfolding predecessors
is_led c choice p s stored there =
    let found = filter_member (λ (s : List Bool). agrees c choice stored s && some_input_shows c s p) s (all_bits (length c.flops))
    (listed_member s (predecessors c choice p stored) there) in
    (and_parts (agrees c choice stored s) (some_input_shows c s p) found.0).1

led_by_none : (c : Circuit) (s : List Bool) (p : Seen) → LeadsPast c s p → some_input_shows c s p ≡ true → ⊥
led_by_none c s p nowhere some =
    let x : Passing (λ (x : List Bool). is_shown p (next c s x)) (all_bits (length c.inputs)) =
    passing (λ (x : List Bool). is_shown p (next c s x)) (all_bits (length c.inputs)) some in
    let wide : length x.item ≡ length c.inputs =
    each_member (λ (y : List Bool). length y ≡ length c.inputs) x.item (all_bits (length c.inputs))
    (recursion_from_All (λ (y : List Bool). length y ≡ length c.inputs) (all_bits (length c.inputs)) (all_bits_widths (length c.inputs))) x.member in
    nowhere.each x.item wide (shows_where p (next c s x.item) x.passes)

leads_elsewhere : (r : Recording) (present : Seen) (stored : List Bool) (older : Option (List Bool)) (run cycle : ℕ) →
    LeadsPast r.circuit (state_at r.circuit (run_of r.runs run) cycle) present →
    lists r.circuit (run_of r.runs run) (asked_in r present stored older) cycle ≡ false
leads_elsewhere r present stored older run cycle nowhere = by (lists r.circuit (run_of r.runs run) (asked_in r present stored older) cycle) refl
  where
    by : (b : Bool) → lists r.circuit (run_of r.runs run) (asked_in r present stored older) cycle ≡ b →
        lists r.circuit (run_of r.runs run) (asked_in r present stored older) cycle ≡ false
    by false is = is
    by true is =
        absurd
        (led_by_none r.circuit (state_at r.circuit (run_of r.runs run) cycle) present nowhere
        (is_led r.circuit r.choice present (state_at r.circuit (run_of r.runs run) cycle) (stored ∷ option_to_list older) is))

-- no state before a cycle is a predecessor, where none leads to the present
pub none_led : (r : Recording) (present : Seen) (stored : List Bool) (older : Option (List Bool)) (from limit : ℕ) → NonePassBefore r.circuit r.runs present from →
    limit ≤ from → NoneBefore r.circuit r.runs (asked_in r present stored older) limit
none_led r present stored older from limit none within =
    record {
      each = λ cycle lt. record {
        each = λ n lo hi there last.
            leads_elsewhere r present stored older n cycle
            (none.each n cycle (omega (arith, lt, within)) (record { from_one = omega (arith, lo); recorded = there; lasts = last }));
      };
    }

-- ---- a run

-- no run behind the number is in such a state
pub none_behind : (r : Recording) (present : Seen) (stored : List Bool) (older : Option (List Bool)) (cycle from below : ℕ) →
    NoneAlike r stored cycle from (length r.runs) → NoneAmong r.circuit r.runs (asked_in r present stored older) cycle from below
none_behind r present stored older cycle from below none =
    let all = none_among r present stored older cycle from (length r.runs) none in
    record { each = λ n lo hi there last. all.each n lo there there last }

-- the next one is past the last
pub none_within : (r : Recording) (present : Seen) (stored : List Bool) (older : Option (List Bool)) (cycle from below run : ℕ) →
    IsNextAlike r stored cycle from run → below < run → NoneAmong r.circuit r.runs (asked_in r present stored older) cycle from below
none_within r present stored older cycle from below run next past =
    let all = none_among r present stored older cycle from (run - 1) next.before in
    record { each = λ n lo hi there last. all.each n lo (omega (arith, hi, past)) there last }

one_more_run : (r : Recording) (states : List (List Bool)) (cycle from run : ℕ) → 1 ≤ run → NoneAmong r.circuit r.runs states cycle from (run - 1) →
    lists r.circuit (run_of r.runs run) states cycle ≡ false → NoneAmong r.circuit r.runs states cycle from run
one_more_run r states cycle from run some none here =
    record {
      each = λ n lo hi there last.
          ⊎_elim (λ (same : n ≡ run). subst (λ (m : ℕ). lists r.circuit (run_of r.runs m) states cycle ≡ false) (sym same) here)
          (λ (other : n ≡ run → ⊥). none.each n lo (omega (arith, hi, other, some)) there last) (cases_eq n run);
    }

-- the run that is next leads elsewhere
pub passed : (r : Recording) (present : Seen) (stored : List Bool) (older : Option (List Bool)) (cycle from below run : ℕ) → IsNextAlike r stored cycle from run →
    run ≤ below → LeadsPast r.circuit (state_at r.circuit (run_of r.runs run) cycle) present →
    TurnsTo r present stored older cycle from below (GoOn run)
passed r present stored older cycle from below run next within nowhere = (
  next.behind,
  within,
  one_more_run r (asked_in r present stored older) cycle from run (omega (arith, next.behind))
      (none_among r present stored older cycle from (run - 1) next.before) (leads_elsewhere r present stored older run cycle nowhere),
)

-- the run that is next stays open
pub open_at : (r : Recording) (present : Seen) (stored : List Bool) (older : Option (List Bool)) (cycle from run : ℕ) → IsNextAlike r stored cycle from run →
    IsOpenAt r (asked_in r present stored older) stored cycle from (moment run cycle)
open_at r present stored older cycle from run next =
    record {
      cycle_is = refl;
      behind = next.behind;
      there = next.is_moment;
      alike = next.alike;
      before = none_among r present stored older cycle from (run - 1) next.before;
    }

pub turned : (r : Recording) (present : Seen) (stored : List Bool) (older : Option (List Bool)) (b cycle from below run : ℕ) (said : Probed) →
    IsNextAlike r stored cycle from run → run ≤ below →
    IsProbed r.circuit r.choice present stored older (state_at r.circuit (run_of r.runs run) cycle) b said →
    TurnsTo r present stored older cycle from below (turn_by said run cycle)
turned r present stored older b cycle from below run (Predecessor cand) next within h = (
  refl,
  record {
    behind = next.behind;
    recorded = next.is_moment.recorded;
    lasts = next.is_moment.lasts;
    listed = subst (λ (s : List Bool). is_listed (asked_in r present stored older) s ≡ true) h.1 h.0.candidate.predecessor;
    before = none_among r present stored older cycle from (run - 1) next.before;
  },
  record { cand = h.0; state = h.1 },
)
turned r present stored older b cycle from below run NoPredecessor next within h = (
  next.behind,
  within,
  one_more_run r (asked_in r present stored older) cycle from run (omega (arith, next.behind))
      (none_among r present stored older cycle from (run - 1) next.before) h,
)
turned r present stored older b cycle from below run Unknown next within h = open_at r present stored older cycle from run next

-- ---- how many are alike

-- the numbers up to one more
up_to_next : (a n : ℕ) → range_with_len a (suc n) ≡ range_with_len a n ++ (a + n) ∷ []
up_to_next a zero = let same : a ≡ a + 0 = omega arith in ap (λ (k : ℕ). k ∷ []) same
up_to_next a (suc n) =
    let same : a + 1 + n ≡ a + suc n = omega arith in
    ap (λ (l : List ℕ). a ∷ l) (up_to_next (a + 1) n ∙ ap (λ (k : ℕ). range_with_len (a + 1) n ++ k ∷ []) same)

-- one number more adds what it counts
sum_next : (f : ℕ → ℕ) (a n k : ℕ) → k ≡ a + n → sum_by f (range_with_len a (n + 1)) ≡ sum_by f (range_with_len a n) + f k
sum_next f a n k is =
    let next : n + 1 ≡ suc n = omega arith in
    ap (λ (m : ℕ). sum_by f (range_with_len a m)) next
    ∙ (ap (sum_by f) (up_to_next a n) ∙ (sum_by_push f (range_with_len a n) (a + n) ∙ ap (λ (j : ℕ). sum_by f (range_with_len a n) + f j) (sym is)))

sum_further : (f : ℕ → ℕ) (a n more : ℕ) → sum_by f (range_with_len a n) ≤ sum_by f (range_with_len a (n + more))
sum_further f a n zero = let same : n + 0 ≡ n = omega arith in subst (λ (m : ℕ). sum_by f (range_with_len a n) ≤ sum_by f (range_with_len a m)) (sym same) (omega arith)
sum_further f a n (suc more) =
    let same : n + more + 1 ≡ n + suc more = omega arith in
    let step = sum_next f a (n + more) (a + (n + more)) refl in
    let so_far = sum_further f a n more in
    subst (λ (m : ℕ). sum_by f (range_with_len a n) ≤ sum_by f (range_with_len a m)) same (omega (arith, step, so_far))

-- no fewer up to a later run
pub alike_further : (r : Recording) (stored : List Bool) (cycle from below : ℕ) → from ≤ below → alike_at r stored cycle from ≤ alike_at r stored cycle below
alike_further r stored cycle from below le =
    let same : from + (below - from) ≡ below = omega (arith, le) in
    subst (λ (m : ℕ). alike_at r stored cycle from ≤ alike_at r stored cycle m) same
    (sum_further (λ (run : ℕ). cond (is_recorded r.runs (moment run cycle) && is_alike r stored (moment run cycle)) 1 0) 1 from (below - from))

is_recorded_by : (r : Recording) (m : Moment) → IsMoment r.runs m → is_recorded r.runs m ≡ true
is_recorded_by r m there =
    and_from (nat_le m.run (length r.runs)) (nat_le m.cycle (length (run_of r.runs m.run))) (le-leb m.run (length r.runs) there.recorded)
    (le-leb m.cycle (length (run_of r.runs m.run)) there.lasts)

-- a run that is alike is one more than those before it
alike_one : (r : Recording) (stored : List Bool) (cycle run : ℕ) → 1 ≤ run → IsMoment r.runs (moment run cycle) →
    is_alike r stored (moment run cycle) ≡ true → alike_at r stored cycle run ≡ alike_at r stored cycle (run - 1) + 1
alike_one r stored cycle run some there alike =
    let test : ℕ → ℕ = λ k. cond (is_recorded r.runs (moment k cycle) && is_alike r stored (moment k cycle)) 1 0 in
    let back : run - 1 + 1 ≡ run = omega (arith, some) in
    let at : run ≡ 1 + (run - 1) = omega (arith, some) in
    let counts : test run ≡ 1 =
    ap (λ (b : Bool). cond b 1 0)
    (and_from (is_recorded r.runs (moment run cycle)) (is_alike r stored (moment run cycle)) (is_recorded_by r (moment run cycle) there) alike) in
    ap (alike_at r stored cycle) (sym back) ∙ (sum_next test 1 (run - 1) run at ∙ ap (λ (n : ℕ). alike_at r stored cycle (run - 1) + n) counts)

-- so is the next one that is alike
pub alike_more : (r : Recording) (stored : List Bool) (cycle from run : ℕ) → IsNextAlike r stored cycle from run →
    alike_at r stored cycle from + 1 ≤ alike_at r stored cycle run
alike_more r stored cycle from run next =
    let some : 1 ≤ run = omega (arith, next.behind) in
    let so_far = alike_further r stored cycle from (run - 1) (omega (arith, next.behind)) in
    let one = alike_one r stored cycle run some next.is_moment next.alike in
    omega (arith, so_far, one)

-- one try is taken
pub tried_one : (r : Recording) (present : Seen) (stored : List Bool) (older : Option (List Bool)) (b old new cycle from below run : ℕ) (said : Probed) →
    old ≡ new + 1 → IsNextAlike r stored cycle from run →
    IsProbed r.circuit r.choice present stored older (state_at r.circuit (run_of r.runs run) cycle) b said →
    HasTurned old new (alike_at r stored cycle) (IsUnknownAt r present stored older b) from below (turn_by said run cycle)
tried_one r present stored older b old new cycle from below run (Predecessor cand) one next h = tt
tried_one r present stored older b old new cycle from below run NoPredecessor one next h =
    let more = alike_more r stored cycle from run next in omega (arith, one, more)
tried_one r present stored older b old new cycle from below run Unknown one next h = h

-- no try is left
pub tried_all : (r : Recording) (stored : List Bool) (old cycle from run : ℕ) → old ≡ 0 → from < run →
    old + alike_at r stored cycle from ≤ alike_at r stored cycle (run - 1)
tried_all r stored old cycle from run none behind =
    let more = alike_further r stored cycle from (run - 1) (omega (arith, behind)) in omega (arith, none, more)

-- no try is taken up to a later run
pub tried_none : (r : Recording) (stored : List Bool) (first old cycle from below : ℕ) → from ≤ below → first ≤ old + alike_at r stored cycle from →
    first ≤ old + alike_at r stored cycle below
tried_none r stored first old cycle from below le so_far = let more = alike_further r stored cycle from below le in omega (arith, so_far, more)

-- the tries up to a run and behind it
pub tried_further : (r : Recording) (stored : List Bool) (first old new cycle from run : ℕ) → first ≤ old + alike_at r stored cycle from →
    old + alike_at r stored cycle from ≤ new + alike_at r stored cycle run → first ≤ new + alike_at r stored cycle run
tried_further r stored first old new cycle from run so_far here = omega (arith, so_far, here)

-- ---- the runs of a cycle

pub no_runs : (r : Recording) (states : List (List Bool)) (cycle : ℕ) → NoneAmong r.circuit r.runs states cycle 0 0
no_runs r states cycle = record { each = λ n lo hi. absurd (omega (arith, lo, hi)) }

pub both_spans : (r : Recording) (states : List (List Bool)) (cycle from below : ℕ) → NoneAmong r.circuit r.runs states cycle 0 from →
    NoneAmong r.circuit r.runs states cycle from below → NoneAmong r.circuit r.runs states cycle 0 below
both_spans r states cycle from below a b =
    record {
      each = λ n lo hi there last.
          ⊎_elim (λ (past : from < n). b.each n past hi there last) (λ (le : n ≤ from). a.each n lo le there last) (cases_lt from n);
    }

pub fewer_runs : (r : Recording) (states : List (List Bool)) (cycle from below : ℕ) → below ≤ from → NoneAmong r.circuit r.runs states cycle 0 from →
    NoneAmong r.circuit r.runs states cycle 0 below
fewer_runs r states cycle from below le a = record { each = λ n lo hi there last. a.each n lo (omega (arith, hi, le)) there last }

open_further : (r : Recording) (states : List (List Bool)) (stored : List Bool) (cycle from : ℕ) (m : Moment) → NoneAmong r.circuit r.runs states cycle 0 from →
    IsOpenAt r states stored cycle from m → IsOpenAt r states stored cycle 0 m
open_further r states stored cycle from m none h =
    record {
      cycle_is = h.cycle_is;
      behind = omega (arith, h.behind);
      there = h.there;
      alike = h.alike;
      before = both_spans r states cycle from (m.run - 1) none h.before;
    }

pub sought_at : (r : Recording) (present : Seen) (stored : List Bool) (older : Option (List Bool)) (cycle from below : ℕ) (sought : Sought) →
    NoneAmong r.circuit r.runs (asked_in r present stored older) cycle 0 from → SoughtAt r present stored older cycle from below sought →
    SoughtAt r present stored older cycle 0 below sought
sought_at r present stored older cycle from below (Found f) none h =
    let low = h.1 in (
      h.0,
      record {
        behind = omega (arith, low.behind);
        recorded = low.recorded;
        lasts = low.lasts;
        listed = low.listed;
        before = both_spans r (asked_in r present stored older) cycle from (f.run - 1) none low.before;
      },
      h.2,
    )
sought_at r present stored older cycle from below NoMoment none h = both_spans r (asked_in r present stored older) cycle from below none h
sought_at r present stored older cycle from below (Cut m) none h = open_further r (asked_in r present stored older) stored cycle from m none h
sought_at r present stored older cycle from below (Unsaid m) none h = open_further r (asked_in r present stored older) stored cycle from m none h

-- the tries of the runs so far and of what is left
pub tried_at : (first old new passed alike : ℕ) (before : Moment → ℕ) (unknown : Moment → Type 0) (sought : Sought) → first ≤ old + passed →
    HasTried (old + passed) new alike before unknown sought → HasTried first new alike before unknown sought
tried_at first old new passed alike before unknown (Found f) so_far h = tt
tried_at first old new passed alike before unknown NoMoment so_far h = omega (arith, so_far, h)
tried_at first old new passed alike before unknown (Cut m) so_far h = omega (arith, so_far, h)
tried_at first old new passed alike before unknown (Unsaid m) so_far h = h

-- ---- the cycles

pub found_first : (r : Recording) (present : Seen) (stored : List Bool) (older : Option (List Bool)) (cycle below : ℕ) (f : Recorded) →
    NoneBefore r.circuit r.runs (asked_in r present stored older) cycle → SoughtAt r present stored older cycle 0 below (Found f) →
    IsFirstRecorded r present stored older f
found_first r present stored older cycle below f none h =
    record {
      first = record {
        lowest = subst (λ (n : ℕ). IsLowest r.circuit r.runs (asked_in r present stored older) n 0 f.run) (sym h.0) h.1;
        before = subst (λ (n : ℕ). NoneBefore r.circuit r.runs (asked_in r present stored older) n) (sym h.0) none;
      };
      recorded = h.2;
    }

pub open_sooner : (r : Recording) (states : List (List Bool)) (stored : List Bool) (cycle : ℕ) (m : Moment) → NoneBefore r.circuit r.runs states cycle →
    IsOpenAt r states stored cycle 0 m → StaysOpen r states stored m
open_sooner r states stored cycle m none h =
    record {
      there = h.there;
      alike = h.alike;
      sooner = record {
        cycles = subst (λ (n : ℕ). NoneBefore r.circuit r.runs states n) (sym h.cycle_is) none;
        runs = subst (λ (n : ℕ). NoneAmong r.circuit r.runs states n 0 (m.run - 1)) (sym h.cycle_is) h.before;
      };
    }

pub sooner_found : (r : Recording) (present : Seen) (stored : List Bool) (older : Option (List Bool)) (m : Moment) (sought : Sought) →
    NoneBefore r.circuit r.runs (asked_in r present stored older) m.cycle → SoughtAt r present stored older m.cycle 0 (m.run - 1) sought →
    SoughtSooner r present stored older m sought
sooner_found r present stored older m (Found f) none h = found_first r present stored older m.cycle (m.run - 1) f none h
sooner_found r present stored older m NoMoment none h = record { cycles = none; runs = h }
sooner_found r present stored older m (Cut o) none h = open_sooner r (asked_in r present stored older) stored m.cycle o none h
sooner_found r present stored older m (Unsaid o) none h = open_sooner r (asked_in r present stored older) stored m.cycle o none h

pub of_all : (r : Recording) (present : Seen) (stored : List Bool) (older : Option (List Bool)) (most : ℕ) (sought : Sought) → IsLongest r.runs most →
    SoughtBefore r present stored older (most + 1) sought → SoughtOfAll r present stored older sought
of_all r present stored older most (Found f) longest h = h
of_all r present stored older most NoMoment longest h =
    behind_all r.circuit r.runs (asked_in r present stored older) most most (omega arith) longest h
of_all r present stored older most (Cut o) longest h = h
of_all r present stored older most (Unsaid o) longest h = h

-- ---- the tries of cycles

pub tried_cycle : (r : Recording) (stored : List Bool) (first old new cycle runs : ℕ) → runs ≡ length r.runs → first ≤ old + alike_below r stored cycle →
    old ≤ new + alike_at r stored cycle runs → first ≤ new + alike_below r stored (cycle + 1)
tried_cycle r stored first old new cycle runs is so_far here =
    let last : old ≤ new + alike_at r stored cycle (length r.runs) = subst (λ (n : ℕ). old ≤ new + alike_at r stored cycle n) is here in
    let none : cycle ≡ 0 + cycle = omega arith in
    let more : alike_below r stored (cycle + 1) ≡ alike_below r stored cycle + alike_at r stored cycle (length r.runs) =
    sum_next (λ (c : ℕ). alike_at r stored c (length r.runs)) 0 cycle cycle none in
    omega (arith, so_far, last, more)

-- all cycles are passed
pub tried_cycles : (r : Recording) (stored : List Bool) (first old cycle limit : ℕ) → cycle ≡ limit → first ≤ old + alike_below r stored cycle →
    first ≤ old + alike_below r stored limit
tried_cycles r stored first old cycle limit is so_far = subst (λ (n : ℕ). first ≤ old + alike_below r stored n) is so_far

-- the search is cut in a cycle, behind those before it
pub cut_in_cycle : (r : Recording) (states : List (List Bool)) (stored : List Bool) (cycle first old : ℕ) (m : Moment) →
    first ≤ old + alike_below r stored cycle → IsOpenAt r states stored cycle 0 m → old ≤ alike_at r stored cycle (m.run - 1) →
    first ≤ alike_before r stored m
cut_in_cycle r states stored cycle first old m so_far h here =
    subst (λ (n : ℕ). first ≤ alike_below r stored n + alike_at r stored n (m.run - 1)) (sym h.cycle_is) (omega (arith, so_far, here))

pub cut_sooner : (r : Recording) (present : Seen) (stored : List Bool) (older : Option (List Bool)) (b : ℕ) (m : Moment) (first old new : ℕ) (sought : Sought) →
    first ≤ old + alike_below r stored m.cycle → SoughtAt r present stored older m.cycle 0 (m.run - 1) sought →
    HasTried old new (alike_at r stored m.cycle (m.run - 1)) (λ o. alike_at r stored m.cycle (o.run - 1)) (IsUnknownAt r present stored older b) sought →
    IsCutAt r present stored older b first sought
cut_sooner r present stored older b m first old new (Found f) so_far h tried = tt
cut_sooner r present stored older b m first old new NoMoment so_far h tried = tt
cut_sooner r present stored older b m first old new (Cut o) so_far h tried =
    cut_in_cycle r (asked_in r present stored older) stored m.cycle first old o so_far h tried
cut_sooner r present stored older b m first old new (Unsaid o) so_far h tried = tried

-- the runs of a moment's cycle were searched behind the cycles before it
pub cut_behind : {E : Type 0} (r : Recording) (present : Seen) (stored : List Bool) (older : Option (List Bool)) (b : ℕ) (m : Moment) (first old new : ℕ)
    (result : Result Sought E) → first ≤ old + alike_below r stored m.cycle →
    IfOk result (SoughtAt r present stored older m.cycle 0 (m.run - 1)) →
    IfOk result (HasTried old new (alike_at r stored m.cycle (m.run - 1)) (λ o. alike_at r stored m.cycle (o.run - 1))
    (IsUnknownAt r present stored older b)) →
    IfOk result (IsCutAt r present stored older b first)
cut_behind r present stored older b m first old new (Ok sought) so_far h tried = cut_sooner r present stored older b m first old new sought so_far h tried
cut_behind r present stored older b m first old new (Err want) so_far h tried = tt

pub cut_of_tried : (r : Recording) (present : Seen) (stored : List Bool) (older : Option (List Bool)) (b old new alike : ℕ) (sought : Sought) →
    HasTried old new alike (alike_before r stored) (IsUnknownAt r present stored older b) sought → IsCutAt r present stored older b old sought
cut_of_tried r present stored older b old new alike (Found f) h = tt
cut_of_tried r present stored older b old new alike NoMoment h = tt
cut_of_tried r present stored older b old new alike (Cut m) h = h
cut_of_tried r present stored older b old new alike (Unsaid m) h = h
