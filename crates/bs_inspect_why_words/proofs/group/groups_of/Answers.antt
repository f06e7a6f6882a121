use Rattle.std.proofs.Common.{arith}
use Rattle.bs_inspect_why_words.proofs.GroupLemmas.{groups_more}
use Rattle.bs_inspect_why_words.proofs.group.groups_of.Goals as goal

pub reasons-preserved : goal.reasons-preserved
reasons-preserved c =
    groups_more c.args.reasons.now c.reasons.reason-index c.reason-item.result c.reasons.groups.items c.join.new.groups.items
    (omega (arith, c.reasons-test.true)) c.reason-item.is c.reasons.invariant c.in_ok-join.ensures
