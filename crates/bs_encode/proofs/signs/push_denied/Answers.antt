use Rattle.std.proofs.Common.{◌≡◌, ◌++◌, ◌∷◌, [], ◌∙◌, rules, not}
use Rattle.bs_encode.specs.Tables.{lit}
use Rattle.bs_encode.proofs.SignLemmas.{denied_step}
use Rattle.bs_encode.proofs.signs.push_denied.Goals as goal

pub loop-i-preserved : goal.loop-i-preserved
loop-i-preserved c =
    let grown : c.push.new.self ≡ c.loop-i.into ++ lit c.index-literals-i.result.variable (not c.get.result) ∷ [] = search rules in
    grown
    ∙ denied_step c.args.into.now c.loop-i.into c.args.literals.now c.args.bits.now c.loop-i.i c.index-literals-i.result c.get.result c.requires
    c.loop-i-test.true c.index-literals-i.is c.get.ensures.value c.loop-i.invariant
