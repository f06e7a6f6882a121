use Rattle.std.proofs.Common.{◌≡◌, ◌+◌, ◌∷◌, [], ◌++◌, List, sym, ap, ◌∙◌, true, rules}
use Rattle.bs_clause.specs.Literal.{Literal}
use Rattle.bs_encode.specs.Tables.{lit}
use Rattle.bs_encode.proofs.PartLemmas.{literals_more}
use Rattle.bs_encode.proofs.encoding.literals_from.Goals as goal

pub loop-i-preserved : goal.loop-i-preserved
loop-i-preserved c =
    let grown : c.push.new.self ≡ c.loop-i.all ++ lit (c.args.first + c.loop-i.i) true ∷ [] = search rules in
    grown ∙ (ap (λ (l : List Literal). l ++ lit (c.args.first + c.loop-i.i) true ∷ []) c.loop-i.invariant ∙ sym (literals_more c.args.first c.loop-i.i))
