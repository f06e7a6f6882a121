use Rattle.bs_reach_unrolled.proofs.UnrollLemmas.{flat_step}
use Rattle.bs_reach.specs.Text.{cycle_text}
use Rattle.bs_reach.proofs.text.push_states.Goals as goal

pub cycles-preserved : goal.cycles-preserved
cycles-preserved c =
    flat_step (cycle_text c.args.reach.now) c.push_bits.new.text.items c.cycles.text.items c.push_cycle.new.text.items c.cycles.i
    c.in_ok-push_cycle.ensures c.cycles.invariant
