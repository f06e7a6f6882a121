use Rattle.std.proofs.Common.{◌≡◌, sym, subst, rules}
use Rattle.bs_clause.specs.Literal.{Satisfies}
use Rattle.bs_clause.specs.Resolvent.{resolvent}
use Rattle.bs_clause.proofs.Resolves.{Satisfies-resolvent}
use Rattle.bs_clause.proofs.resolution.resolve.Goals as goal

pub returns-clause-meaning : goal.returns-clause-meaning
returns-clause-meaning c =
    let value : c.push_news.new.into ≡ resolvent c.args.a.now c.args.b.now c.args.pivot = search rules in
    λ v ha hb. subst (Satisfies v) (sym value) (Satisfies-resolvent v c.args.a.now c.args.b.now c.args.pivot ha hb)
