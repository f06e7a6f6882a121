use Rattle.std.proofs.Common.{◌∙◌, sym}
use Rattle.bs_reach_unrolled.proofs.Reading.{made_at}
use Rattle.bs_reach_unrolled.proofs.chain.is_made.Goals as goal

pub returns : goal.returns
returns c =
    made_at c.args.literals.now c.args.clauses.now c.args.places.now c.args.i c.index-literals-i.result c.index-clauses-i.result c.slice-clause.result.now
    c.is_used.result c.requires.within c.requires.same c.index-literals-i.is c.index-clauses-i.is c.slice-clause.ensures
    (sym c.has_literal.ensures.test ∙ c.if-not-has_literal.false) c.if-not-are_settled.ensures c.if-not-is_place.ensures c.is_used.ensures
