use Rattle.std.proofs.Common.{refl, sym, arith}
use Rattle.bs_net_names.proofs.SplitLemmas.{first_here, first_past, first_none}
use Rattle.bs_net_names.proofs.splits.first_split.Goals as goal

pub text-init : goal.text-init
text-init c = refl

pub returns-then-text-i : goal.returns-then-text-i
returns-then-text-i c = first_here _ _ _ 0 c.text-test.true c.if-text-i.true c.text.invariant

pub text-preserved : goal.text-preserved
text-preserved c = first_past _ _ _ 0 c.text-test.true c.if-text-i.false c.text.invariant

pub returns : goal.returns
returns c = sym (first_none _ _ c.text.i (omega (arith, c.text-test.false)) c.text.invariant)
