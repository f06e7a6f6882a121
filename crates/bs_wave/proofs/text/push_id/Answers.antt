use Rattle.bs_wave.proofs.WritingLemmas.{more_digits, begins_longer}
use Rattle.bs_wave.proofs.text.push_id.Goals as goal

pub digits-preserved : goal.digits-preserved
digits-preserved c = record {
  whole = more_digits _ c.digits.into.items c.push.new.self.items c.digits.left c.digits-test.true c.digits.invariant.whole c.in_ok-push.ensures.items;
  begins = begins_longer _ c.digits.into.items c.push.new.self.items _ c.digits.invariant.begins c.in_ok-push.ensures.items;
}
