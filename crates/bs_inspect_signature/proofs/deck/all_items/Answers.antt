use Rattle.std.proofs.Common.{ℕ, List, [], ◌∷◌, ◌++◌, ap, sym, ◌∙◌}
use Rattle.bs_bits.proofs.RangeLemmas.{range_push}
use Rattle.bs_inspect_signature.proofs.deck.all_items.Goals as goal

pub items-preserved : goal.items-preserved
items-preserved c =
    c.in_ok-push.ensures.items ∙ (ap (λ (t : List ℕ). t ++ c.items.item ∷ []) c.items.invariant ∙ sym (range_push c.items.item))
