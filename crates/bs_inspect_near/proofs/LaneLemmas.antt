-- The nearest of the moments that were looked at, lane by lane.
use Rattle.std.proofs.Common.{◌≡◌, ◌≢◌, ℕ, ◌<◌, ◌≤◌, ◌+◌, ◌-◌, Bool, true, false, ◌&&◌, ◌||◌, cond, List, [], length, get_or, Option, Some, None}
use Rattle.std.proofs.Common.{refl, ap, sym, subst, ◌∙◌, ◌⊎◌, inl, inr, ⊎_elim, arith}
use Rattle.std.specs.Prelude.{◌==◌, nat_le, nat_lt}
use Rattle.std.proofs.lemmas.Bool.{and_parts, cases_eq, cases_lt, eq-eqb, eqb-true, le-leb, le-ltb, leb-true, lt-ltb, ltb-false, ltb-true, true≢false}
use Rattle.std.proofs.lemmas.List.{get_or-map, length-map}
use Rattle.bs_net.specs.Circuit.{Circuit}
use Rattle.bs_net.specs.declared.limits.TheConstants.{MAX_FLOPS}
use Rattle.bs_scan.specs.declared.seen.Seen.{Seen}
use Rattle.bs_stim.specs.Runs.{Recorded, Stimulus, inputs_of, no_run, run_at}
use Rattle.bs_scan.specs.Moments.{IsMoment, Moment, Run, moment, run_of, state_at, state_of}
use Rattle.bs_inspect_near.specs.Counters.{lane_count}
use Rattle.bs_inspect_near.specs.Distance.{distance}
use Rattle.bs_inspect_near.specs.Nearest.{IsNoNearer, moment_of}
use Rattle.bs_inspect_near.specs.Visited.{BestIs, IsBest, IsNearestVisited, IsVisited, ShowsCounts, is_nearer, is_viewed, lane_run, nearer}
use Rattle.bs_inspect_near.specs.declared.search.Near.{Near}

-- ---- a lane

run_is : (s : Stimulus) (k : ℕ) → k < length s.runs → (run_at s (k + 1)).inputs ≡ get_or (inputs_of s) k []
run_is s k lt =
    let place : k + 1 - 1 ≡ k = omega arith in
    ap (λ (n : ℕ). (get_or s.runs n no_run).inputs) place ∙ sym (get_or-map (λ (run : Recorded). run.inputs) s.runs k no_run [] lt)

runs_count : (s : Stimulus) → length (inputs_of s) ≡ length s.runs
runs_count s = length-map s.runs (λ (run : Recorded). run.inputs)

pub viewed_none : (s : Stimulus) (first cycle k n : ℕ) → n ≡ length s.runs → n ≤ first + k → false ≡ is_viewed (inputs_of s) first cycle k
viewed_none s first cycle k n e le =
    sym
    (ap (λ (b : Bool). b && nat_le cycle (length (lane_run (inputs_of s) first k)))
    (le-ltb (first + k) (length (inputs_of s)) (omega (arith, e, le, runs_count s))))

pub viewed_one : (s : Stimulus) (first cycle k n m : ℕ) (b : Bool) → b ≡ nat_le cycle m → n ≡ length s.runs → first + k < n →
    m ≡ length (run_at s (first + k + 1)).inputs → b ≡ is_viewed (inputs_of s) first cycle k
viewed_one s first cycle k n m b lasts e lt is =
    let there : first + k < length s.runs = omega (arith, e, lt) in
    lasts
    ∙ (ap (λ (x : ℕ). nat_le cycle x) (is ∙ ap length (run_is s (first + k) there))
    ∙ sym
    (ap (λ (x : Bool). x && nat_le cycle (length (lane_run (inputs_of s) first k)))
    (lt-ltb (first + k) (length (inputs_of s)) (omega (arith, there, runs_count s)))))

-- a lane that is looked at has a run
record HasRun (runs : List Run) (first cycle k : ℕ) : Type 0 where
  there : first + k < length runs
  lasts : cycle ≤ length (lane_run runs first k)

viewed_run : (runs : List Run) (first cycle k : ℕ) → is_viewed runs first cycle k ≡ true → HasRun runs first cycle k
viewed_run runs first cycle k viewed =
    let both = and_parts (nat_lt (first + k) (length runs)) (nat_le cycle (length (lane_run runs first k))) viewed in
    record {
      there = ltb-true (first + k) (length runs) both.0;
      lasts = leb-true cycle (length (lane_run runs first k)) both.1;
    }

viewed : (runs : List Run) (first cycle k : ℕ) → first + k < length runs → cycle ≤ length (lane_run runs first k) → is_viewed runs first cycle k ≡ true
viewed runs first cycle k there lasts = λ i. (lt-ltb (first + k) (length runs) there i) && (le-leb cycle (length (lane_run runs first k)) lasts i)

lane_place : (first k : ℕ) → first + k + 1 - 1 ≡ first + k
lane_place first k = omega arith

lane_moment : (runs : List Run) (first k cycle : ℕ) → HasRun runs first cycle k → IsMoment runs (moment (first + k + 1) cycle)
lane_moment runs first k cycle has = record {
  from_one = omega arith;
  recorded = omega (arith, has.there);
  lasts = subst (λ (n : ℕ). cycle ≤ length (get_or runs n [])) (sym (lane_place first k)) has.lasts;
}

-- ---- which moments come with a lane

with_lane : (cycle first k : ℕ) (m : Moment) → IsVisited cycle (first + k + 1) m → IsVisited cycle (first + k) m ⊎ ((m.cycle ≡ cycle) × (m.run ≡ first + k + 1))
with_lane cycle first k m visited = by visited.either
  where
    by : (m.cycle < cycle) ⊎ ((m.cycle ≡ cycle) × (m.run ≤ first + k + 1)) → IsVisited cycle (first + k) m ⊎ ((m.cycle ≡ cycle) × (m.run ≡ first + k + 1))
    by (inl less) = inl (record { either = inl less })
    by (inr p) =
        ⊎_elim (λ (same : m.run ≡ first + k + 1). inr (p.0, same))
        (λ (other : m.run ≡ first + k + 1 → ⊥). inl (record { either = inr (p.0, omega (arith, p.1, other)) })) (cases_eq m.run (first + k + 1))

-- a moment of the lane shows that the lane is looked at
moment_viewed : (runs : List Run) (cycle first k : ℕ) (m : Moment) → IsMoment runs m → m.cycle ≡ cycle → m.run ≡ first + k + 1 →
    is_viewed runs first cycle k ≡ true
moment_viewed runs cycle first k m there at number =
    let place : m.run - 1 ≡ first + k = omega (arith, number) in
    viewed runs first cycle k (omega (arith, there.recorded, number))
    (subst (λ (n : ℕ). n ≤ length (lane_run runs first k)) at (subst (λ (n : ℕ). m.cycle ≤ length (get_or runs n [])) place there.lasts))

-- ---- a lane that is not looked at

pub best_passed : (c : Circuit) (runs : List Run) (seen : Seen) (cycle first k : ℕ) (is : Bool) (best : Option Near) →
    is ≡ is_viewed runs first cycle k → is ≡ false → IsBest c runs seen cycle (first + k) best → IsBest c runs seen cycle (first + k + 1) best
best_passed c runs seen cycle first k is best e is_not so = record { is = by best so.is }
  where
    before : (m : Moment) → IsMoment runs m → IsVisited cycle (first + k + 1) m → IsVisited cycle (first + k) m
    before m there visited =
        ⊎_elim (λ (old : IsVisited cycle (first + k) m). old)
        (λ (p : (m.cycle ≡ cycle) × (m.run ≡ first + k + 1)).
        absurd (true≢false (sym (moment_viewed runs cycle first k m there p.0 p.1) ∙ (sym e ∙ is_not)))) (with_lane cycle first k m visited)

    by : (o : Option Near) → BestIs c runs seen cycle (first + k) o → BestIs c runs seen cycle (first + k + 1) o
    by None none = record { is = λ m there visited. none.is m there (before m there visited) }
    by (Some near) near_is = record {
      recorded = near_is.recorded;
      counted = near_is.counted;
      visited = near_is.visited;
      nearest = λ m there visited. near_is.nearest m there (before m there visited);
    }

-- ---- a lane that is looked at

pub count_few : (c : Circuit) (runs : List Run) (first cycle k : ℕ) (seen : Seen) (digits : List ℕ) → k < 64 →
    ShowsCounts c runs first cycle seen digits → lane_count digits k ≤ MAX_FLOPS
count_few c runs first cycle k seen digits small shows = shows.few k small

-- one is as near as the other, and its run and cycle come no later
no_nearer : (near : Near) (bits : ℕ) (m : Moment) → near.count ≡ bits → near.run ≡ m.run → near.cycle ≡ m.cycle → IsNoNearer near bits m
no_nearer near bits m e f g = record {
  more = omega (arith, e);
  lower = λ same. omega (arith, f);
  earlier = λ same run. omega (arith, g);
}

-- a nearer one stays so
nearer_is : (old new : Near) (bits : ℕ) (m : Moment) → is_nearer new old ≡ true → IsNoNearer old bits m → IsNoNearer new bits m
nearer_is old new bits m nearer_one so = by (cases_lt new.count old.count)
  where
    equal : (a b : Bool) → (a || b) ≡ true → a ≡ false → b ≡ true
    equal true b h is_not = absurd (true≢false is_not)
    equal false b h is_not = h

    by : (new.count < old.count) ⊎ (old.count ≤ new.count) → IsNoNearer new bits m
    by (inl lt) = record {
      more = omega (arith, lt, so.more);
      lower = λ same. absurd (omega (arith, same, lt, so.more));
      earlier = λ same run. absurd (omega (arith, same, lt, so.more));
    }
    by (inr ge) =
        let both = and_parts (new.count == old.count) (nat_lt new.run old.run)
        (equal (nat_lt new.count old.count) ((new.count == old.count) && nat_lt new.run old.run) nearer_one (le-ltb new.count old.count ge)) in
        let alike : new.count ≡ old.count = eqb-true new.count old.count both.0 in
        let lower : new.run < old.run = ltb-true new.run old.run both.1 in
        record {
          more = omega (arith, alike, so.more);
          lower = λ same. omega (arith, lower, so.lower (same ∙ alike));
          earlier = λ same run. absurd (omega (arith, run, lower, so.lower (same ∙ alike)));
        }

-- one that is not nearer, and comes no earlier
not_nearer : (old new : Near) → is_nearer new old ≡ false → old.cycle ≤ new.cycle → IsNoNearer old new.count (moment_of new)
not_nearer old new is_not later = record {
  more = ge;
  lower = λ same. low same;
  earlier = λ same run. later;
}
  where
    first_no : (a b : Bool) → (a || b) ≡ false → a ≡ false
    first_no true b h = absurd (true≢false h)
    first_no false b h = refl

    second_no : (a b : Bool) → (a || b) ≡ false → b ≡ false
    second_no true b h = absurd (true≢false h)
    second_no false b h = h

    rest_no : (a b : Bool) → (a && b) ≡ false → a ≡ true → b ≡ false
    rest_no true b h e = h
    rest_no false b h e = absurd (true≢false (sym e))

    ge : old.count ≤ new.count
    ge = ltb-false new.count old.count (first_no (nat_lt new.count old.count) ((new.count == old.count) && nat_lt new.run old.run) is_not)

    low : new.count ≡ old.count → old.run ≤ new.run
    low same =
        ltb-false new.run old.run
        (rest_no (new.count == old.count) (nat_lt new.run old.run)
        (second_no (nat_lt new.count old.count) ((new.count == old.count) && nat_lt new.run old.run) is_not) (eq-eqb new.count old.count same))

abbrev pub made : ℕ → ℕ → ℕ → Near
made run cycle count = record { run = run; cycle = cycle; count = count }

pub best_more : (c : Circuit) (runs : List Run) (seen : Seen) (cycle first k count : ℕ) (digits : List ℕ) (is : Bool) (best : Option Near) (new after : Near) →
    k < 64 → is ≡ is_viewed runs first cycle k → is ≡ true → ShowsCounts c runs first cycle seen digits → count ≡ lane_count digits k →
    new ≡ made (first + k + 1) cycle count → after ≡ nearer best new → IsBest c runs seen cycle (first + k) best →
    IsBest c runs seen cycle (first + k + 1) (Some after)
best_more c runs seen cycle first k count digits is best new after small e is_so shows counted is_made goes so =
    subst (λ (near : Near). IsBest c runs seen cycle (first + k + 1) (Some near)) (sym (goes ∙ ap (nearer best) is_made)) (record { is = by best so.is })
  where
    has : HasRun runs first cycle k
    has = viewed_run runs first cycle k (sym e ∙ is_so)

    -- the moment of the lane differs in so many bits
    here : (run at : ℕ) → at ≡ cycle → run ≡ first + k + 1 → count ≡ distance (state_at c (run_of runs run) at) seen
    here run at same number =
        let place : run - 1 ≡ first + k = omega (arith, number) in
        counted
        ∙ (shows.each k small has.there has.lasts ∙ (λ i. distance (state_at c (get_or runs (sym place i) []) (sym same i)) seen))

    new_visited : ((m : Moment) → IsMoment runs m → IsVisited cycle (first + k) m → IsNoNearer (made (first + k + 1) cycle count) (distance (state_of c runs m) seen) m) →
        IsNearestVisited c runs seen cycle (first + k + 1) (made (first + k + 1) cycle count)
    new_visited older = record {
      recorded = lane_moment runs first k cycle has;
      counted = here (first + k + 1) cycle refl refl;
      visited = omega arith;
      nearest =
          λ m there visited.
          ⊎_elim (λ (old : IsVisited cycle (first + k) m). older m there old)
          (λ (p : (m.cycle ≡ cycle) × (m.run ≡ first + k + 1)).
          no_nearer (made (first + k + 1) cycle count) (distance (state_of c runs m) seen) m (here m.run m.cycle p.0 p.1) (sym p.1) (sym p.0)) (with_lane cycle first k m visited);
    }

    old_visited : (old : Near) → is_nearer (made (first + k + 1) cycle count) old ≡ false → IsNearestVisited c runs seen cycle (first + k) old → IsNearestVisited c runs seen cycle (first + k + 1) old
    old_visited old is_not old_is = record {
      recorded = old_is.recorded;
      counted = old_is.counted;
      visited = old_is.visited;
      nearest =
          λ m there visited.
          ⊎_elim (λ (before : IsVisited cycle (first + k) m). old_is.nearest m there before)
          (λ (p : (m.cycle ≡ cycle) × (m.run ≡ first + k + 1)).
          let none : IsNoNearer old count (moment (first + k + 1) cycle) = not_nearer old (made (first + k + 1) cycle count) is_not old_is.visited in
          let bits : count ≡ distance (state_of c runs m) seen = here m.run m.cycle p.0 p.1 in
          record {
            more = omega (arith, none.more, bits);
            lower = λ same. omega (arith, none.lower (bits ∙ same), p.1);
            earlier = λ same run. omega (arith, old_is.visited, p.0);
          })
          (with_lane cycle first k m visited);
    }

    chosen : (old : Near) (t : Bool) → is_nearer (made (first + k + 1) cycle count) old ≡ t → IsNearestVisited c runs seen cycle (first + k) old →
        IsNearestVisited c runs seen cycle (first + k + 1) (cond t (made (first + k + 1) cycle count) old)
    chosen old true h old_is =
        new_visited (λ m there visited. nearer_is old (made (first + k + 1) cycle count) (distance (state_of c runs m) seen) m h (old_is.nearest m there visited))
    chosen old false h old_is = old_visited old h old_is

    by : (o : Option Near) → BestIs c runs seen cycle (first + k) o → BestIs c runs seen cycle (first + k + 1) (Some (nearer o (made (first + k + 1) cycle count)))
    by None none = new_visited (λ m there visited. absurd (none.is m there visited))
    by (Some old) old_is = chosen old (is_nearer (made (first + k + 1) cycle count) old) refl old_is

-- ---- all lanes of a word

pub lanes_begin : (c : Circuit) (runs : List Run) (seen : Seen) (cycle first : ℕ) (best : Option Near) → IsBest c runs seen cycle first best →
    IsBest c runs seen cycle (first + 0) best
lanes_begin c runs seen cycle first best so =
    let e : first ≡ first + 0 = omega arith in subst (λ (n : ℕ). IsBest c runs seen cycle n best) e so

pub lanes_next : (c : Circuit) (runs : List Run) (seen : Seen) (cycle first k : ℕ) (best : Option Near) →
    IsBest c runs seen cycle (first + k + 1) best → IsBest c runs seen cycle (first + (k + 1)) best
lanes_next c runs seen cycle first k best so =
    let e : first + k + 1 ≡ first + (k + 1) = omega arith in subst (λ (n : ℕ). IsBest c runs seen cycle n best) e so

pub lanes_all : (c : Circuit) (runs : List Run) (seen : Seen) (cycle first k : ℕ) (best : Option Near) → 64 ≤ k → k ≤ 64 →
    IsBest c runs seen cycle (first + k) best → IsBest c runs seen cycle (first + 64) best
lanes_all c runs seen cycle first k best le ge so =
    let e : first + k ≡ first + 64 = omega (arith, le, ge) in subst (λ (n : ℕ). IsBest c runs seen cycle n best) e so
