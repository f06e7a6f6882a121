use Rattle.std.proofs.Common.{◌≡◌, ◌∙◌, ◌-◌, ℕ, [], length, get_or, ap, arith, sym}
use Rattle.bs_net.specs.Circuit.{Circuit}
use Rattle.bs_lanes.specs.Planes.{lane}
use Rattle.bs_lanes.proofs.PlaneLemmas.{length_lane}
use Rattle.bs_scan.specs.Choice.{depth_of}
use Rattle.bs_scan.specs.Moments.{Run, run_of, state_at}
use Rattle.bs_scan.specs.Register.{Register}
use Rattle.bs_chip.specs.Lockstep.{wide_of}
use Rattle.bs_chip.specs.Replay.{Played}
use Rattle.bs_chip.proofs.TrackLemmas.{filled_all, filled_more, track_at}
use Rattle.bs_chip.proofs.kept_planes.recall_register.Goals as goal

pub clock-requires : goal.clock-requires
clock-requires c =
    ap length (c.state.ensures ∙ ap (λ (p : Played). p.state) c.enter.ensures)
    ∙ (length_lane _ (length c.cycles.player.circuit.flops) c.slice.result.now _
    ∙ (ap (λ (c : Circuit). length c.flops) c.cycles.invariant.same.circuit
    ∙ (sym c.requires.width ∙ sym (ap (λ (r : Register). r.choice.width) c.cycles.invariant.register))))

pub cycles-preserved : goal.cycles-preserved
cycles-preserved c =
    let p = c.args.player.now in
    let run : Run = run_of p.runs c.args.moment.run in
    let k : ℕ = c.cycles.cycle in
    let depth : c.from.result ≡ depth_of c.args.register.now.choice =
    c.from.ensures ∙ (c.depth.ensures.depth ∙ ap (λ (r : Register). depth_of r.choice) c.clear.ensures) in
    let shown : lane (wide_of (length p.runs)) (length p.circuit.flops) (get_or c.args.track.now k []) (c.args.moment.run - 1) ≡ state_at p.circuit run k =
    (c.requires.shows.each k (omega (arith, c.cycles-test.true, c.requires.tracked))).each c.args.moment.run c.requires.moment.from_one
    c.requires.moment.recorded (omega (arith, c.cycles-test.true, c.requires.moment.lasts)) in
    let planes : c.slice.result.now ≡ get_or c.args.track.now k [] =
    c.slice.ensures ∙ sym (track_at c.args.track.now k c.get.result.now c.get.ensures.lookup) in
    let entered : c.enter.new.self.state ≡ state_at p.circuit run k =
    ap (λ (p : Played). p.state) c.enter.ensures
    ∙ ((λ i. lane (wide_of (length (c.cycles.invariant.same.runs i))) (length (c.cycles.invariant.same.circuit i).flops) (planes i) (c.args.moment.run - 1))
    ∙ shown) in
    record {
      same = record {
        circuit = ap (λ (p : Played). p.circuit) c.enter.ensures ∙ c.cycles.invariant.same.circuit;
        runs = ap (λ (p : Played). p.runs) c.enter.ensures ∙ c.cycles.invariant.same.runs;
      };
      begun = omega (arith, c.cycles.invariant.begun);
      within = omega (arith, c.cycles-test.true);
      register =
          filled_more p.circuit c.args.register.now.choice run c.saturating_sub-first.result k c.cycles.register c.clock.new.self c.state.result.now
          c.cycles.invariant.begun (omega (arith, c.saturating_sub-first.ensures, depth, c.cycles-test.true)) c.cycles.invariant.register
          (c.state.ensures ∙ entered) c.clock.ensures;
    }

pub returns-clause-stored : goal.returns-clause-stored
returns-clause-stored c =
    let p = c.args.player.now in
    let depth : c.from.result ≡ depth_of c.args.register.now.choice =
    c.from.ensures ∙ (c.depth.ensures.depth ∙ ap (λ (r : Register). depth_of r.choice) c.clear.ensures) in
    filled_all p.circuit c.args.register.now.choice (run_of p.runs c.args.moment.run) c.saturating_sub-first.result c.args.moment.cycle c.cycles.cycle
    c.cycles.register (c.saturating_sub-first.ensures ∙ ap (λ (n : ℕ). c.args.moment.cycle - n) depth)
    (omega (arith, c.cycles.invariant.within, c.cycles-test.false)) c.cycles.invariant.register
