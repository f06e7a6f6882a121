use Rattle.std.proofs.Common.{◌≡◌, ◌⊎◌}
use Rattle.bs_clause.specs.Literal.{negation}
use Rattle.bs_reach_unrolled.specs.Chain.{IsBefore}
use Rattle.bs_reach_unrolled.proofs.Reading.{all_more, all_of}
use Rattle.bs_reach_unrolled.proofs.chain.are_settled.Goals as goal

pub literals-preserved : goal.literals-preserved
literals-preserved c =
    all_more (λ m. (m ≡ c.args.l) ⊎ IsBefore c.args.literals.now c.args.i (negation m)) c.args.clause.now c.literals.m-index c.m-item.result
    c.literals-test.true c.m-item.is c.literals.invariant c.if-not-is_settled.ensures

pub returns : goal.returns
returns c =
    all_of (λ m. (m ≡ c.args.l) ⊎ IsBefore c.args.literals.now c.args.i (negation m)) c.args.clause.now c.literals.m-index c.literals-test.false
    c.literals.invariant
