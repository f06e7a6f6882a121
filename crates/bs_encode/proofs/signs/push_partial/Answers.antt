use Rattle.std.proofs.Common.{◌≡◌, ◌++◌, ◌∙◌, List, ap, sym, append-nil, rules}
use Rattle.bs_scan.specs.Seen.{kept_one}
use Rattle.bs_encode.specs.Tables.{lit}
use Rattle.bs_clause.specs.Literal.{Literal}
use Rattle.bs_encode.proofs.SignLemmas.{nothing_known, seen_step}
use Rattle.bs_encode.proofs.signs.push_partial.Goals as goal

pub loop-i-init : goal.loop-i-init
loop-i-init c = sym (ap (λ (l : List Literal). c.args.into.now ++ l) (nothing_known c.args.seen.now.free) ∙ append-nil c.args.into.now)

pub loop-i-preserved : goal.loop-i-preserved
loop-i-preserved c =
    let grown : c.push_known.new.into ≡ c.loop-i.into ++ kept_one c.is_free.result (lit c.index-literals-i.result.variable c.get.result) = search rules in
    grown
    ∙ seen_step c.args.into.now c.loop-i.into c.args.literals.now c.args.seen.now c.loop-i.i c.index-literals-i.result c.get.result c.is_free.result c.requires
    c.loop-i-test.true c.index-literals-i.is c.get.ensures.value c.is_free.ensures c.loop-i.invariant
