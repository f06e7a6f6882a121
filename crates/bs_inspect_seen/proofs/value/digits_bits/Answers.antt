use Rattle.std.proofs.Common.{◌∙◌, arith, length, refl}
use Rattle.bs_inspect_seen.proofs.ValueLemmas.{digits_more, digits_none}
use Rattle.bs_inspect_seen.proofs.value.digits_bits.Goals as goal

pub digits-init : goal.digits-init
digits-init c = record {
  within = omega arith;
  is = c.new-bits.ensures.items ∙ digits_none c.args.base c.args.digits.now (length c.args.digits.now) refl;
}

pub digits-preserved : goal.digits-preserved
digits-preserved c = record {
  within = omega (arith, c.digits.invariant.within);
  is =
      digits_more c.args.base c.args.digits.now c.digits.bits.items c.push_digit.new.bits.items c.digits.left _ (omega (arith, c.digits-test.true))
      c.digits.invariant.within c.digits.invariant.is c.in_ok-push_digit.ensures;
}
