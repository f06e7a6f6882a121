use Rattle.bs_audit.proofs.LogLemmas.{assumptions_more}
use Rattle.bs_audit.proofs.logged.assumptions.Goals as goal

pub steps-preserved : goal.steps-preserved
steps-preserved c =
    assumptions_more c.args.encoding.now c.args.steps.now c.steps.i c.index-steps-i.result c.steps.all c.push.new.self c.in_ok-assumed.field-0
    c.activation_of-activation.result c.steps-test.true c.index-steps-i.is
    c.steps.invariant c.activation_of-activation.ensures c.in_ok-assumed.ensures c.in_ok-push.ensures.ok
