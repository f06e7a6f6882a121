use Rattle.std.proofs.Common.{arith}
use Rattle.std.proofs.lemmas.Bool.{ne_eqb}
use Rattle.bs_net_names.proofs.NearestLemmas.{common_is}
use Rattle.bs_net_names.proofs.nearest.common_front.Goals as goal

pub returns-else-a-n-clause-is : goal.returns-else-a-n-clause-is
returns-else-a-n-clause-is c = common_is _ _ _ c.bytes.invariant.left c.bytes.invariant.right c.bytes.invariant.same (λ p q. ne_eqb _ _ c.if-a-n.false)

pub returns-else-n-b-clause-is : goal.returns-else-n-b-clause-is
returns-else-n-b-clause-is c = common_is _ _ _ c.bytes.invariant.left c.bytes.invariant.right c.bytes.invariant.same (λ p q. absurd (omega
    (arith, q, c.if-n-b.false)))

pub returns-after-bytes-clause-is : goal.returns-after-bytes-clause-is
returns-after-bytes-clause-is c = common_is _ _ _ c.bytes.invariant.left c.bytes.invariant.right c.bytes.invariant.same (λ p q. absurd (omega
    (arith, p, c.bytes-test.false)))
