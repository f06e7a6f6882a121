use Rattle.std.proofs.Common.{refl, arith}
use Rattle.bs_lex.proofs.DigitLemmas.{next_digit, last_digit}
use Rattle.bs_lex.proofs.words.saturated.Goals as goal

pub digits-preserved : goal.digits-preserved
digits-preserved c = record {
  so_far = rw c.next_number-number.ensures (next_digit c.args.digits.now c.digits.digit-index c.digits.number _ _ 65536 _ c.digits-test.true refl
      c.digits.invariant.so_far);
  bound = omega (arith, c.next_number-number.ensures);
}

pub returns : goal.returns
returns c = last_digit c.args.digits.now c.digits.digit-index c.digits.number 65536 _ c.digits-test.false c.digits.invariant.bound c.digits.invariant.so_far
