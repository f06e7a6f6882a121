use Rattle.std.proofs.Common.{rules, ◌≡◌}
use Rattle.std.proofs.lemmas.Fn.{always_returns_same}
use Rattle.bs_inspect_view.proofs.SignalLemmas.{are_from, member_key, sorted_in}
use Rattle.bs_inspect_view.proofs.signal.signals.Goals as goal

pub returns : goal.returns
returns c =
    are_from c.join.result _ _ c.in_ok-members.members.items _ _ c.in_ok-members.ensures c.in_ok-sort_by_key.ensures.permutation c.deref.ensures.value
    (sorted_in _
    (c.in_ok-sort_by_key.ensures.sorted member_key (always_returns_same _ (λ a r. r ≡ member_key a.0.now) _ (λ a r q k. search rules))))
    c.join.ensures.whole c.join.ensures.bits
