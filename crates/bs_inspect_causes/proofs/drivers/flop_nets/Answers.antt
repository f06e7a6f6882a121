use Rattle.std.proofs.Common.{arith}
use Rattle.bs_inspect_causes.proofs.DriverLemmas.{outputs_all, outputs_more}
use Rattle.bs_inspect_causes.proofs.drivers.flop_nets.Goals as goal

pub flops-preserved : goal.flops-preserved
flops-preserved c =
    outputs_more c.args.flops.now c.flops.flop-index _ c.flops.nets c.push.new.self (omega (arith, c.flops-test.true)) c.in_ok-push.ensures.ok
    c.flops.invariant

pub returns : goal.returns
returns c = outputs_all c.args.flops.now c.flops.flop-index c.flops.nets (omega (arith, c.flops-test.false)) c.flops.invariant
