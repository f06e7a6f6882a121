-- The states of one run, cycle by cycle.
use Rattle.std.proofs.Common.{◌≡◌, ℕ, ◌<◌, ◌≤◌, ◌+◌, ◌-◌, ◌*◌, Bool, List, [], ◌∷◌, ◌++◌, length, get_or, ap, sym, subst, ◌∙◌}
use Rattle.std.proofs.Common.{◌⊎◌, inl, inr, arith}
use Rattle.std.proofs.lemmas.Bool.{cases_lt}
use Rattle.std.proofs.lemmas.List.{get_or_append_left, get_or_push, length_push}
use Rattle.bs_net.specs.Circuit.{Circuit}
use Rattle.bs_lanes.specs.Planes.{lane}
use Rattle.bs_scan.specs.Moments.{Run, run_of, state_at}
use Rattle.bs_chip.specs.Lockstep.{Passing, ShowsCycle, wide_of}
use Rattle.bs_inspect_near.specs.Known.{AreOwn}

-- ---- the state of a run

pub state_room : (c : Circuit) (p : Passing) (planes : List ℕ) (wide count : ℕ) → p.circuit ≡ c → wide ≡ wide_of (length p.runs) →
    count ≡ length c.flops → ShowsCycle p.circuit p.runs planes p.cycle → count * wide ≤ length planes
state_room c p planes wide count e is size shows =
    omega (arith, shows.size ∙ ((λ i. length (e i).flops * sym is i) ∙ ap (λ (n : ℕ). n * wide) (sym size)))

pub state_lane : (runs : List Run) (p : Passing) (wide number n : ℕ) → p.runs ≡ runs → wide ≡ wide_of (length p.runs) → n ≡ length p.runs →
    n ≤ 64 * wide_of (length p.runs) → 1 ≤ number → number ≤ length runs → number - 1 < 64 * wide
state_lane runs p wide number n e is count room low there = omega (arith, ap length e, is, count, room, low, there)

pub state_is : (c : Circuit) (runs : List Run) (p : Passing) (planes : List ℕ) (wide count number : ℕ) (state : List Bool) → p.circuit ≡ c →
    p.runs ≡ runs → wide ≡ wide_of (length p.runs) → count ≡ length c.flops → ShowsCycle p.circuit p.runs planes p.cycle → 1 ≤ number →
    number ≤ length runs → p.cycle ≤ length (run_of runs number) → state ≡ lane wide count planes (number - 1) →
    state ≡ state_at c (run_of runs number) p.cycle
state_is c runs p planes wide count number state e f is size shows low there lasts goes =
    goes
    ∙ ((λ i. lane (is i) (size i) planes (number - 1))
    ∙ ((λ i. lane (wide_of (length p.runs)) (length (sym e i).flops) planes (number - 1))
    ∙ (shows.each number low (omega (arith, there, ap length f)) (subst (λ (rs : List Run). p.cycle ≤ length (run_of rs number)) (sym f) lasts)
    ∙ (λ i. state_at (e i) (run_of (f i) number) p.cycle))))

-- ---- all states

-- the states of the first cycles
pub record OwnSo (c : Circuit) (runs : List Run) (number cycles : ℕ) (own : List (List Bool)) : Type 0 where
  pub long : length own ≡ cycles
  pub each : (t : ℕ) → t < length own → get_or own t [] ≡ state_at c (run_of runs number) t

pub own_begin : (c : Circuit) (runs : List Run) (number : ℕ) (own : List (List Bool)) → own ≡ [] → OwnSo c runs number 0 own
own_begin c runs number own e = record { long = ap length e; each = λ t lt. absurd (omega (arith, lt, ap length e)) }

pub own_more : (c : Circuit) (runs : List Run) (number cycle : ℕ) (own after : List (List Bool)) (state : List Bool) (at : ℕ) →
    OwnSo c runs number cycle own → at ≡ cycle → state ≡ state_at c (run_of runs number) at → after ≡ own ++ state ∷ [] →
    OwnSo c runs number (cycle + 1) after
own_more c runs number cycle own after state at so same is goes =
    subst (OwnSo c runs number (cycle + 1)) (sym goes)
    (record {
      long = length_push own state ∙ (let h : length own + 1 ≡ cycle + 1 = omega (arith, so.long) in h);
      each = λ t lt. by t lt (cases_lt t (length own));
    })
  where
    by : (t : ℕ) → t < length (own ++ state ∷ []) → (t < length own) ⊎ (length own ≤ t) → get_or (own ++ state ∷ []) t [] ≡ state_at c (run_of runs number) t
    by t lt (inl less) = get_or_append_left own (state ∷ []) [] t less ∙ so.each t less
    by t lt (inr le) =
        let end : length own ≡ t = omega (arith, lt, le, length_push own state) in
        let here : at ≡ t = same ∙ (sym so.long ∙ end) in
        get_or_push own state [] t end ∙ (is ∙ ap (state_at c (run_of runs number)) here)

pub own_all : (c : Circuit) (runs : List Run) (number cycle n : ℕ) (own : List (List Bool)) → 1 ≤ number → number ≤ length runs →
    n ≡ length (run_of runs number) → n + 1 ≤ cycle → cycle ≤ n + 1 → OwnSo c runs number cycle own → AreOwn c runs number own
own_all c runs number cycle n own low there e le ge so = record {
  from_one = low;
  there = there;
  long = omega (arith, so.long, e, le, ge);
  each = so.each;
}

pub own_run : (runs others : List Run) (number n : ℕ) → others ≡ runs → n ≡ length (run_of others number) → n ≡ length (run_of runs number)
own_run runs others number n e is = is ∙ ap (λ (rs : List Run). length (run_of rs number)) e
