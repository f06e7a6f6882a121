use Rattle.std.proofs.Common.{arith}
use Rattle.bs_wave.proofs.WritingLemmas.{more_digits}
use Rattle.bs_inspect_view.proofs.IdLemmas.{last}
use Rattle.bs_inspect_view.proofs.head.push_id.Goals as goal

pub digits-preserved : goal.digits-preserved
digits-preserved c =
    more_digits _ c.digits.text.items c.push.new.self.items c.digits.left c.digits-test.true c.digits.invariant c.in_ok-push.ensures.items

pub returns : goal.returns
returns c =
    last c.digits.left _ c.digits.text.items c.push-2.new.self.items (omega (arith, c.digits-test.false)) c.digits.invariant
    c.in_ok-push-2.ensures.items
