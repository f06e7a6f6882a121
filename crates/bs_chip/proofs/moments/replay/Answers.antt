use Rattle.std.proofs.Common.{◌∙◌, ◌+◌, sym, ap, length}
use Rattle.bs_scan.specs.Moments.{moment, run_of, state_of}
use Rattle.bs_scan.specs.Register.{Register}
use Rattle.bs_scan.proofs.SignatureLemmas.{length_state}
use Rattle.bs_chip.specs.Replay.{Played, in_state}
use Rattle.bs_chip.proofs.ReplayLemmas.{register_first, register_more, state_first}
use Rattle.bs_chip.proofs.moments.replay.Goals as goal

pub cycles-init : goal.cycles-init
cycles-init c =
    record {
      player = c.reset.ensures ∙ ap (in_state c.args.player.now)
          (sym (state_first c.args.player.now.circuit (run_of c.args.player.now.runs c.args.moment.run)));
      register =
          register_first c.args.player.now.circuit c.args.register.now.choice (run_of c.args.player.now.runs c.args.moment.run) _ c.clear.ensures;
    }

pub clock-requires : goal.clock-requires
clock-requires c =
    ap length (c.state.ensures ∙ ap (λ (p : Played). p.state) c.cycles.invariant.player)
    ∙ (length_state c.args.player.now.circuit (run_of c.args.player.now.runs c.args.moment.run) c.cycles.cycle
    ∙ (sym c.requires.width ∙ sym (ap (λ (r : Register). r.choice.width) c.cycles.invariant.register)))

pub cycles-preserved : goal.cycles-preserved
cycles-preserved c =
    let here = c.state.ensures ∙ ap (λ (p : Played). p.state) c.cycles.invariant.player in
    record {
      player =
          c.step.ensures
          ∙ ap (λ (p : Played). in_state p (state_of p.circuit p.runs (moment c.args.moment.run (c.cycles.cycle + 1)))) c.cycles.invariant.player;
      register =
          c.clock.ensures
          ∙ register_more c.args.player.now.circuit c.args.register.now.choice (run_of c.args.player.now.runs c.args.moment.run) c.cycles.cycle _ _
          c.cycles.invariant.register here;
    }
