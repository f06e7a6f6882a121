-- The state of a run at a moment, out of a lane.
use Rattle.std.proofs.Common.{◌≡◌, ℕ, ◌<◌, ◌≤◌, ◌+◌, ◌-◌, ◌*◌, Bool, List, [], ◌∷◌, ◌++◌, length, ap, sym, subst, ◌∙◌, arith}
use Rattle.std.proofs.lemmas.List.{get_or-map, length-map}
use Rattle.bs_net.specs.Circuit.{Circuit}
use Rattle.bs_stim.specs.Runs.{Recorded, Stimulus, inputs_of, no_run, run_at}
use Rattle.bs_stim.specs.declared.limits.TheConstants.{MAX_CYCLES}
use Rattle.bs_lanes.specs.Planes.{lane}
use Rattle.bs_scan.specs.Moments.{IsMoment, Run, run_of, state_at, state_of}
use Rattle.bs_chip.specs.Lockstep.{Passing, ShowsCycle, wide_of}
use Rattle.bs_inspect_near.specs.Nearest.{moment_of}
use Rattle.bs_inspect_near.specs.declared.search.Near.{Near}

-- ---- the state of a run

pub state_room : (c : Circuit) (p : Passing) (planes : List ℕ) (wide count : ℕ) → p.circuit ≡ c → wide ≡ wide_of (length p.runs) →
    count ≡ length c.flops → ShowsCycle p.circuit p.runs planes p.cycle → count * wide ≤ length planes
state_room c p planes wide count e is size shows =
    omega (arith, shows.size ∙ ((λ i. length (e i).flops * sym is i) ∙ ap (λ (n : ℕ). n * wide) (sym size)))

pub state_lane : (runs : List Run) (p : Passing) (near : Near) (wide n : ℕ) → p.runs ≡ runs → wide ≡ wide_of (length p.runs) → n ≡ length p.runs →
    n ≤ 64 * wide_of (length p.runs) → IsMoment runs (moment_of near) → near.run - 1 < 64 * wide
state_lane runs p near wide n e is count room there = omega (arith, ap length e, is, count, room, there.from_one, there.recorded)

pub state_is : (c : Circuit) (runs : List Run) (p : Passing) (near : Near) (planes : List ℕ) (wide count : ℕ) (state : List Bool) → p.circuit ≡ c →
    p.runs ≡ runs → p.cycle ≡ near.cycle → wide ≡ wide_of (length p.runs) → count ≡ length c.flops → ShowsCycle p.circuit p.runs planes p.cycle →
    IsMoment runs (moment_of near) → state ≡ lane wide count planes (near.run - 1) → state ≡ state_of c runs (moment_of near)
state_is c runs p near planes wide count state e f g is size shows there goes =
    let lasts : p.cycle ≤ length (run_of p.runs near.run) =
    subst (λ (rs : List Run). p.cycle ≤ length (run_of rs near.run)) (sym f)
    (subst (λ (n : ℕ). n ≤ length (run_of runs near.run)) (sym g) there.lasts) in
    goes
    ∙ ((λ i. lane (is i) (size i) planes (near.run - 1))
    ∙ ((λ i. lane (wide_of (length p.runs)) (length (sym e i).flops) planes (near.run - 1))
    ∙ (shows.each near.run there.from_one (omega (arith, there.recorded, ap length f)) lasts
    ∙ (λ i. state_at (e i) (run_of (f i) near.run) (g i)))))

-- ---- its cycle

run_is : (s : Stimulus) (n : ℕ) → 1 ≤ n → n ≤ length s.runs → (run_at s n).inputs ≡ run_of (inputs_of s) n
run_is s n low there = sym (get_or-map (λ (run : Recorded). run.inputs) s.runs (n - 1) no_run [] (omega (arith, low, there)))

pub run_there : (s : Stimulus) (near : Near) → IsMoment (inputs_of s) (moment_of near) → near.run ≤ length s.runs
run_there s near there = omega (arith, there.recorded, length-map s.runs (λ (run : Recorded). run.inputs))

pub run_low : (s : Stimulus) (near : Near) → IsMoment (inputs_of s) (moment_of near) → 1 ≤ near.run
run_low s near there = there.from_one

pub cycle_few : (s : Stimulus) (near : Near) (n : ℕ) → IsMoment (inputs_of s) (moment_of near) → n ≡ length (run_at s near.run).inputs →
    n ≤ MAX_CYCLES → near.cycle ≤ MAX_CYCLES
cycle_few s near n there e few =
    omega (arith, e, few, ap length (run_is s near.run there.from_one (run_there s near there)), there.lasts)
