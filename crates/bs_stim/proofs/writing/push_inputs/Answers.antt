use Rattle.std.proofs.Common.{arith}
use Rattle.bs_stim.proofs.WritingLemmas.{one_more_line}
use Rattle.bs_stim.proofs.writing.push_inputs.Goals as goal

pub cycles-preserved : goal.cycles-preserved
cycles-preserved c =
    one_more_line c.args.inputs.now.rows c.cycles.cycle c.args.into.now.items c.cycles.into.items c.push_input.new.into.items (omega arith)
    c.cycles.invariant c.in_ok-push_input.ensures.ok
