use Rattle.std.proofs.Common.{◌≡◌, ◌++◌, ◌∷◌, [], ◌∙◌, rules, true, false}
use Rattle.bs_clause.specs.Literal.{has_literal}
use Rattle.bs_clause.proofs.News.{old_literal, new_literal}
use Rattle.bs_clause.proofs.resolution.push_news.Goals.{then-not-has_literal+in_ok-push, else-not-has_literal}
use Rattle.bs_clause.proofs.resolution.push_news.Goals as goal

pub loop-m-preserved : goal.loop-m-preserved
loop-m-preserved c =
    elim c.if-not-has_literal.branch [
      | then-not-has_literal+in_ok-push w ↦
          let misses : has_literal c.loop-m.into c.m-item.result ≡ false = search rules in
          let grown : c.if-not-has_literal.into ≡ c.loop-m.into ++ c.m-item.result ∷ [] = search rules in
          grown ∙
          new_literal c.args.into.now c.loop-m.into c.args.clause.now c.loop-m.m-index c.m-item.result c.loop-m-test.true c.m-item.is c.loop-m.invariant misses
      | else-not-has_literal w ↦
          let stands : has_literal c.loop-m.into c.m-item.result ≡ true = search rules in
          let same : c.if-not-has_literal.into ≡ c.loop-m.into = search rules in
          same ∙
          old_literal c.args.into.now c.loop-m.into c.args.clause.now c.loop-m.m-index c.m-item.result c.loop-m-test.true c.m-item.is c.loop-m.invariant stands
    ]
