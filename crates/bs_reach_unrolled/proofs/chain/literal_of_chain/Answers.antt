use Rattle.std.proofs.Common.{arith}
use Rattle.bs_reach_unrolled.proofs.Reading.{read_last}
use Rattle.bs_reach_unrolled.proofs.Chains.{proved}
use Rattle.bs_reach_unrolled.proofs.chain.literal_of_chain.Goals as goal

pub returns : goal.returns
returns c =
    let same = c.if-literals-clauses.false in
    let some = c.if-clauses-eq0.false in
    proved c.args.literals.now c.args.clauses.now c.args.places.now c.index-literals-literals.result same c.requires c.if-not-are_made.ensures
    (omega (arith, some)) (read_last c.args.literals.now c.args.clauses.now c.index-literals-literals.result same (omega (arith, some)) c.index-literals-literals.is)
