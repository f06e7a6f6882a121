use Rattle.std.proofs.Common.{◌≡◌, arith, reverse, subst}
use Rattle.bs_reach.specs.Refuted.{AreRefuted}
use Rattle.bs_reach.proofs.refuted.add_lengths.Goals as goal

pub returns : goal.returns
returns c =
    let low = c.lengths-test.false in
    let high = c.lengths.auto.c-end in
    let all : c.lengths.c ≡ c.args.denied = omega (arith, low, high) in
    subst (λ n. AreRefuted c.args.encoding.now c.args.reset.now c.args.state.now c.args.k c.args.b n c.lengths.last (reverse c.lengths.log)) all
    c.lengths.invariant
