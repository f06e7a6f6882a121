use Rattle.bs_reach_unrolled.specs.Unrolled.{length_assumes}
use Rattle.bs_evidence.proofs.LengthLemmas.{lengths_more}
use Rattle.bs_evidence.proofs.lengths.assumptions.Goals as goal

pub lengths-preserved : goal.lengths-preserved
lengths-preserved c =
    lengths_more (length_assumes c.args.encoding.now c.args.k c.args.state.now) c.lengths.all c.push.new.self c.in_ok-assumed.field-0 c.lengths.c
    c.lengths.invariant c.in_ok-assumed.ensures c.in_ok-push.ensures.ok
