-- The nearest of all moments, word by word and cycle by cycle.
use Rattle.std.proofs.Common.{◌≡◌, ℕ, ◌<◌, ◌≤◌, ◌+◌, ◌-◌, ◌*◌, Bool, List, [], length, get_or, Option, Some, None}
use Rattle.std.proofs.Common.{ap, sym, subst, ◌∙◌, ◌⊎◌, inl, inr, ⊎_elim, arith}
use Rattle.std.proofs.lemmas.Bool.{cases_lt}
use Rattle.std.proofs.lemmas.List.{length-map}
use Rattle.bs_net.specs.Circuit.{Circuit}
use Rattle.bs_net.specs.declared.limits.TheConstants.{MAX_FLOPS}
use Rattle.bs_scan.specs.declared.seen.Seen.{Seen}
use Rattle.bs_stim.specs.Runs.{IsStimulus, Recorded, Stimulus, inputs_of}
use Rattle.bs_lanes.specs.Planes.{lane}
use Rattle.bs_scan.specs.Moments.{IsMoment, Moment, Run, moment, state_at}
use Rattle.bs_chip.specs.Lockstep.{IsLongest, Passing, ShowsCycle, wide_of}
use Rattle.bs_inspect_near.specs.Distance.{differs, distance}
use Rattle.bs_inspect_near.specs.Nearest.{IsNearest}
use Rattle.bs_inspect_near.specs.Visited.{BestIs, IsBest, IsCount, IsNearestVisited, IsVisited, ShowsCounts, lane_run}
use Rattle.bs_inspect_near.specs.declared.search.Near.{Near}
use Rattle.bs_inspect_near.proofs.CountLemmas.{count_within}

-- ---- word by word

pub planes_room : (c : Circuit) (runs : List Run) (planes : List ℕ) (seen : Seen) (cycle wide : ℕ) → ShowsCycle c runs planes cycle →
    wide ≡ wide_of (length runs) → length seen.bits ≡ length c.flops → length planes ≡ length seen.bits * wide
planes_room c runs planes seen cycle wide shows e size = shows.size ∙ (λ i. sym size i * sym e i)

pub counts_shown : (c : Circuit) (runs : List Run) (planes : List ℕ) (seen : Seen) (cycle wide word first : ℕ) (digits : List ℕ) →
    ShowsCycle c runs planes cycle → wide ≡ wide_of (length runs) → length seen.bits ≡ length c.flops → length seen.bits ≤ MAX_FLOPS →
    IsCount planes wide word seen (length seen.bits) digits → first ≡ word * 64 → ShowsCounts c runs first cycle seen digits
counts_shown c runs planes seen cycle wide word first digits shows e size few is f = record {
  few = λ k small. omega (arith, is.each k small, count_within (differs (lane wide (length seen.bits) planes (word * 64 + k)) seen) (length seen.bits), few);
  each = λ k small there lasts.
      let place : first + k + 1 - 1 ≡ first + k = omega arith in
      let lane_is : word * 64 + k ≡ first + k + 1 - 1 = omega (arith, f) in
      let shown : lane wide (length seen.bits) planes (word * 64 + k) ≡ state_at c (lane_run runs first k) cycle =
      (λ i. lane (e i) (size i) planes (lane_is i))
      ∙ (shows.each (first + k + 1) (omega arith) (omega (arith, there)) (subst (λ (n : ℕ). cycle ≤ length (get_or runs n [])) (sym place) lasts)
      ∙ ap (λ (n : ℕ). state_at c (get_or runs n []) cycle) place) in
      is.each k small ∙ ap (λ (s : List Bool). distance s seen) shown;
}

pub best_first : (c : Circuit) (runs : List Run) (seen : Seen) (cycle word first : ℕ) (best : Option Near) → first ≡ word * 64 →
    IsBest c runs seen cycle (word * 64) best → IsBest c runs seen cycle first best
best_first c runs seen cycle word first best e so = subst (λ (n : ℕ). IsBest c runs seen cycle n best) (sym e) so

pub best_next : (c : Circuit) (runs : List Run) (seen : Seen) (cycle word first : ℕ) (best : Option Near) → first ≡ word * 64 →
    IsBest c runs seen cycle (first + 64) best → IsBest c runs seen cycle ((word + 1) * 64) best
best_next c runs seen cycle word first best e so =
    let f : first + 64 ≡ (word + 1) * 64 = omega (arith, e) in subst (λ (n : ℕ). IsBest c runs seen cycle n best) f so

pub best_zero : (c : Circuit) (runs : List Run) (seen : Seen) (cycle : ℕ) (best : Option Near) → IsBest c runs seen cycle 0 best →
    IsBest c runs seen cycle (0 * 64) best
best_zero c runs seen cycle best so = so

-- ---- cycle by cycle

pub cycle_done : (c : Circuit) (runs : List Run) (seen : Seen) (cycle wide word : ℕ) (best : Option Near) → wide ≤ word →
    length runs ≤ 64 * wide → IsBest c runs seen cycle (word * 64) best → IsBest c runs seen (cycle + 1) 0 best
cycle_done c runs seen cycle wide word best le room so = record { is = by best so.is }
  where
    before : (m : Moment) → IsMoment runs m → IsVisited (cycle + 1) 0 m → IsVisited cycle (word * 64) m
    before m there visited = record { either = turned visited.either }
      where
        turned : (m.cycle < cycle + 1) ⊎ ((m.cycle ≡ cycle + 1) × (m.run ≤ 0)) → (m.cycle < cycle) ⊎ ((m.cycle ≡ cycle) × (m.run ≤ word * 64))
        turned (inl less) =
            ⊎_elim (λ (lt : m.cycle < cycle). inl lt)
            (λ (ge : cycle ≤ m.cycle). inr (omega (arith, less, ge), omega (arith, there.recorded, room, le))) (cases_lt m.cycle cycle)
        turned (inr p) = absurd (omega (arith, p.1, there.from_one))

    by : (o : Option Near) → BestIs c runs seen cycle (word * 64) o → BestIs c runs seen (cycle + 1) 0 o
    by None none = record { is = λ m there visited. none.is m there (before m there visited) }
    by (Some near) near_is = record {
      recorded = near_is.recorded;
      counted = near_is.counted;
      visited = omega (arith, near_is.visited);
      nearest = λ m there visited. near_is.nearest m there (before m there visited);
    }

pub best_none : (c : Circuit) (runs : List Run) (seen : Seen) → IsBest c runs seen 0 0 None
best_none c runs seen = record { is = record { is = λ m there visited. nowhere m there visited.either } }
  where
    nowhere : (m : Moment) → IsMoment runs m → (m.cycle < 0) ⊎ ((m.cycle ≡ 0) × (m.run ≤ 0)) → ⊥
    nowhere m there (inl less) = absurd (omega (arith, less))
    nowhere m there (inr p) = absurd (omega (arith, p.1, there.from_one))

-- each moment is one of those that were looked at
pub all_visited : (runs : List Run) (cycle most : ℕ) (m : Moment) → most + 1 ≤ cycle → IsLongest runs most → IsMoment runs m → IsVisited cycle 0 m
all_visited runs cycle most m le longest there = record {
  either = inl (omega (arith, le, there.lasts, longest.each m.run there.from_one there.recorded));
}

pub best_whole : (c : Circuit) (runs : List Run) (seen : Seen) (cycle most : ℕ) (best : Option Near) (near : Near) → most + 1 ≤ cycle →
    IsLongest runs most → best ≡ Some near → IsBest c runs seen cycle 0 best → IsNearest c runs seen near
best_whole c runs seen cycle most best near le longest e so =
    let is : IsNearestVisited c runs seen cycle 0 near = (subst (IsBest c runs seen cycle 0) e so).is in
    record {
      recorded = is.recorded;
      counted = is.counted;
      nearest = λ m there. is.nearest m there (all_visited runs cycle most m le longest there);
    }

pub first_there : (s : Stimulus) → IsStimulus s → IsMoment (inputs_of s) (moment 1 0)
first_there s sound = record {
  from_one = omega arith;
  recorded = omega (arith, sound.some_run, length-map s.runs (λ (run : Recorded). run.inputs));
  lasts = omega arith;
}

-- ---- the pass

pub pass_shows : (c : Circuit) (runs : List Run) (p : Passing) (planes : List ℕ) (cycle : ℕ) → p.circuit ≡ c → p.runs ≡ runs → p.cycle ≡ cycle →
    ShowsCycle p.circuit p.runs planes p.cycle → ShowsCycle c runs planes cycle
pass_shows c runs p planes cycle e f g shows =
    subst (λ (n : ℕ). ShowsCycle c runs planes n) g
    (subst (λ (rs : List Run). ShowsCycle c rs planes p.cycle) f (subst (λ (d : Circuit). ShowsCycle d p.runs planes p.cycle) e shows))

pub pass_wide : (runs : List Run) (p : Passing) (wide : ℕ) → p.runs ≡ runs → wide ≡ wide_of (length p.runs) → wide ≡ wide_of (length runs)
pass_wide runs p wide e is = is ∙ ap (λ (rs : List Run). wide_of (length rs)) e

pub pass_room : (runs : List Run) (p : Passing) (wide n : ℕ) → p.runs ≡ runs → wide ≡ wide_of (length p.runs) → n ≡ length p.runs →
    n ≤ 64 * wide_of (length p.runs) → length runs ≤ 64 * wide
pass_room runs p wide n e is count room = omega (arith, ap length e, is, count, room)
