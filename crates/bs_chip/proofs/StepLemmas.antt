-- All lanes, one cycle on.
use Rattle.std.proofs.Common.{◌≡◌, ℕ, ◌<◌, ◌≤◌, ◌+◌, ◌-◌, ◌*◌, Bool, List, length, refl, arith, ap, ap₂, sym, subst, ◌∙◌}
use Rattle.bs_net.specs.Circuit.{Circuit, next, reset_state}
use Rattle.bs_net.specs.Netlist.{circuit}
use Rattle.bs_stim.specs.Runs.{Stimulus, IsStimulus, inputs_of}
use Rattle.bs_lanes.specs.Planes.{lane}
use Rattle.bs_lanes.specs.Lanes.{LaneTable, IsSameTable, AreReset, AreStepped}
use Rattle.bs_scan.specs.Crash.{Recording}
use Rattle.bs_scan.specs.Moments.{Run, run_of}
use Rattle.bs_chip.specs.Inputs.{AreInputs, HaveInputs}
use Rattle.bs_chip.specs.Live.{Lasting}
use Rattle.bs_chip.specs.Lockstep.{wide_of, ShowsCycle, ShowsPass, Passing, IsPass, IsLockstep}
use Rattle.bs_chip.specs.Stepped.{StandsAt}
use Rattle.bs_chip.proofs.InputLemmas.{inputs_are}
use Rattle.bs_chip.proofs.ReplayLemmas.{state_first, state_more}

-- ---- one clock edge

-- what the lanes' table says of a lane, said of the machine and the runs
pub of_table : (c d e : Circuit) (w v u : ℕ) (old new inputs : List ℕ) (q : ℕ) → d ≡ c → e ≡ c → v ≡ w → u ≡ w →
    lane u (length e.flops) new q ≡ next d (lane v (length d.flops) old q) (lane v (length d.inputs) inputs q) →
    lane w (length c.flops) new q ≡ next c (lane w (length c.flops) old q) (lane w (length c.inputs) inputs q)
of_table c d e w v u old new inputs q dc ec vw uw h =
    let A : Circuit → Type 0 = λ e. lane u (length e.flops) new q ≡ next d (lane v (length d.flops) old q) (lane v (length d.inputs) inputs q) in
    let B : Circuit → Type 0 = λ d. lane u (length c.flops) new q ≡ next d (lane v (length d.flops) old q) (lane v (length d.inputs) inputs q) in
    let C : ℕ → Type 0 = λ v. lane u (length c.flops) new q ≡ next c (lane v (length c.flops) old q) (lane v (length c.inputs) inputs q) in
    let D : ℕ → Type 0 = λ u. lane u (length c.flops) new q ≡ next c (lane w (length c.flops) old q) (lane w (length c.inputs) inputs q) in
    subst D uw (subst C vw (subst B dc (subst A ec h)))

pub stepped : (c : Circuit) (runs : List Run) (old new : LaneTable) (inputs before : List ℕ) (cycle : ℕ) → IsLockstep c runs old before →
    ShowsCycle c runs old.flops cycle → AreInputs c runs cycle inputs → IsSameTable old new →
    AreStepped old new inputs → length new.flops ≡ length (circuit new.net).flops * new.wide → ShowsCycle c runs new.flops (cycle + 1)
stepped c runs old new inputs before cycle lock here ins same step size =
    let wide : new.wide ≡ wide_of (length runs) = same.wide ∙ lock.wide in
    let net : circuit new.net ≡ c = ap circuit same.net ∙ lock.net in
    record {
      size = size ∙ ap₂ (λ (c : Circuit) (w : ℕ). length c.flops * w) net wide;
      each = λ r from there last.
          let in_lanes : r - 1 < 64 * old.wide = omega (arith, from, there, lock.room, lock.wide) in
          of_table c (circuit old.net) (circuit new.net) (wide_of (length runs)) old.wide new.wide old.flops new.flops inputs
          (r - 1) lock.net net lock.wide wide
          (step.state (r - 1) in_lanes)
          ∙ state_more c (run_of runs r) cycle _ _ (here.each r from there (omega (arith, last)))
          (ins.each r from there (omega (arith, last)));
    }

pub same_lockstep : (c : Circuit) (runs : List Run) (old new : LaneTable) (inputs others : List ℕ) → IsSameTable old new → length others ≡ length inputs →
    IsLockstep c runs old inputs → IsLockstep c runs new others
same_lockstep c runs old new inputs others same e h =
    record { net = ap circuit same.net ∙ h.net; wide = same.wide ∙ h.wide; room = h.room; size = e ∙ h.size }

-- ---- reset

at_reset : (c d : Circuit) (w v : ℕ) (planes : List ℕ) (q : ℕ) → d ≡ c → v ≡ w → lane v (length d.flops) planes q ≡ reset_state d →
    lane w (length c.flops) planes q ≡ reset_state c
at_reset c d w v planes q e f h =
    let A : Circuit → Type 0 = λ d. lane v (length d.flops) planes q ≡ reset_state d in
    let B : ℕ → Type 0 = λ v. lane v (length c.flops) planes q ≡ reset_state c in
    subst B f (subst A e h)

pub reset_shows : (c : Circuit) (runs : List Run) (lanes : LaneTable) (planes : List ℕ) → circuit lanes.net ≡ c → lanes.wide ≡ wide_of (length runs) →
    length runs ≤ 64 * wide_of (length runs) → AreReset lanes → planes ≡ lanes.flops →
    length lanes.flops ≡ length (circuit lanes.net).flops * lanes.wide → ShowsCycle c runs planes 0
reset_shows c runs lanes planes net wide room h e size =
    subst (λ (p : List ℕ). ShowsCycle c runs p 0) (sym e)
    (record {
      size = size ∙ ap₂ (λ (c : Circuit) (w : ℕ). length c.flops * w) net wide;
      each = λ r from there last.
          at_reset c (circuit lanes.net) (wide_of (length runs)) lanes.wide lanes.flops (r - 1) net wide
          (h.state (r - 1) (omega (arith, from, there, room, wide)))
          ∙ sym (state_first c (run_of runs r));
    })

-- ---- what is lent

in_table : (c d : Circuit) (w v : ℕ) (planes : List ℕ) (q : ℕ) (s : List Bool) → d ≡ c → v ≡ w → lane w (length c.flops) planes q ≡ s →
    lane v (length d.flops) planes q ≡ s
in_table c d w v planes q s e f h =
    let A : Circuit → Type 0 = λ d. lane v (length d.flops) planes q ≡ s in
    let B : ℕ → Type 0 = λ v. lane v (length c.flops) planes q ≡ s in
    subst A (sym e) (subst B (sym f) h)

pub stands : (r : Recording) (p : Passing) (lanes : LaneTable) → p.circuit ≡ r.circuit → p.runs ≡ r.runs → ShowsPass p lanes → StandsAt r lanes p.cycle
stands r p lanes e f h =
    let P : Circuit → Type 0 = λ c. ShowsPass (record { circuit = c; runs = p.runs; cycle = p.cycle }) lanes in
    let Q : List Run → Type 0 = λ runs. ShowsPass (record { circuit = r.circuit; runs = runs; cycle = p.cycle }) lanes in
    let here : ShowsPass (record { circuit = r.circuit; runs = r.runs; cycle = p.cycle }) lanes = subst Q f (subst P e h) in
    record {
      each = λ n from there last.
          in_table r.circuit (circuit lanes.net) (wide_of (length r.runs)) lanes.wide lanes.flops (n - 1) _ here.net here.wide
          (here.shows.each n from there last);
    }

-- ---- a pass

pub pass_first : (s : Stimulus) (lanes : LaneTable) (live : Lasting) (inputs : List ℕ) → IsStimulus s → s.width ≡ length (circuit lanes.net).inputs →
    lanes.wide ≡ wide_of (length (inputs_of s)) → length (inputs_of s) ≤ 64 * wide_of (length (inputs_of s)) →
    length inputs ≡ length (circuit lanes.net).inputs * wide_of (length (inputs_of s)) → live.runs ≡ inputs_of s → AreReset lanes →
    length lanes.flops ≡ length (circuit lanes.net).flops * lanes.wide → IsPass s lanes live inputs 0
pass_first s lanes live inputs sound width wide room size lives reset flops =
    record {
      sound = sound;
      width = width;
      lockstep = record { net = refl; wide = wide; room = room; size = size };
      lives = lives;
      shows = reset_shows (circuit lanes.net) (inputs_of s) lanes lanes.flops refl wide room reset refl flops;
    }

-- the same pass with other lanes of the same table, which show a cycle
pub pass_with : (s : Stimulus) (old new : LaneTable) (live other : Lasting) (inputs others : List ℕ) (at cycle : ℕ) → IsPass s old live inputs at →
    IsSameTable old new → length others ≡ length inputs → other.runs ≡ live.runs → ShowsCycle (circuit old.net) (inputs_of s) new.flops cycle →
    IsPass s new other others cycle
pass_with s old new live other inputs others at cycle h same size e shows =
    let net : circuit old.net ≡ circuit new.net = sym (ap circuit same.net) in
    record {
      sound = h.sound;
      width = h.width ∙ ap (λ (c : Circuit). length c.inputs) net;
      lockstep = (let P : Circuit → Type 0 = λ c. IsLockstep c (inputs_of s) new others in
          subst P net (same_lockstep (circuit old.net) (inputs_of s) old new inputs others same size h.lockstep));
      lives = e ∙ h.lives;
      shows = (let P : Circuit → Type 0 = λ c. ShowsCycle c (inputs_of s) new.flops cycle in subst P net shows);
    }

pub pass_more : (s : Stimulus) (old new : LaneTable) (live other : Lasting) (inputs others : List ℕ) (at wide : ℕ) → IsPass s old live inputs at →
    IsSameTable old new → wide ≡ old.wide → length others ≡ length inputs → other.runs ≡ live.runs →
    HaveInputs (inputs_of s) at wide (length inputs) others → AreStepped old new others →
    length new.flops ≡ length (circuit new.net).flops * new.wide → IsPass s new other others (at + 1)
pass_more s old new live other inputs others at wide h same w size e have step flops =
    let ins : AreInputs (circuit old.net) (inputs_of s) at others =
    inputs_are (circuit old.net) s others at wide (length inputs) h.sound h.width (w ∙ h.lockstep.wide) h.lockstep.room h.lockstep.size size have in
    pass_with s old new live other inputs others at (at + 1) h same size e
    (stepped (circuit old.net) (inputs_of s) old new others inputs at h.lockstep h.shows ins same step flops)
