use Rattle.std.proofs.Common.{rules, ◌≡◌}
use Rattle.std.proofs.lemmas.Fn.{always_returns_same}
use Rattle.bs_inspect_near.proofs.NoveltyLemmas.{novelty_key}
use Rattle.bs_inspect_near.proofs.novelty.ordered.Goals as goal

pub returns-clause-sorted : goal.returns-clause-sorted
returns-clause-sorted c =
    c.in_ok-sort_by_key.ensures.sorted novelty_key (always_returns_same _ (λ a r. r ≡ novelty_key a.0.now) _ (λ a r q k. search rules))
