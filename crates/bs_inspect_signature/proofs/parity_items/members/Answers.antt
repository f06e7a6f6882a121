use Rattle.std.proofs.Common.{ℕ, List, [], ◌∷◌, ◌++◌, cond, ap, ◌∙◌, arith}
use Rattle.bs_inspect_signature.specs.Mixed.{has_item}
use Rattle.bs_inspect_signature.proofs.MixedLemmas.{dealt_wide, member_more}
use Rattle.bs_inspect_signature.proofs.parity_items.members.Goals as goal

pub put_if-requires : goal.put_if-requires
put_if-requires c =
    omega (arith, c.flops-test.true, c.requires.narrow, dealt_wide c.args.count c.args.width c.args.hands.now c.requires.hands)

pub flops-preserved : goal.flops-preserved
flops-preserved c =
    member_more c.args.count c.args.width c.args.item c.flops.flop c.args.hands.now c.index-hands-flop.result c.flops.members c.put_if.new.members
    c.requires.hands c.flops-test.true c.flops.invariant
    (c.in_ok-put_if.ensures
    ∙ ap (λ (h : List ℕ). c.flops.members ++ cond (has_item h c.args.item) (c.flops.flop ∷ []) []) (c.slice.ensures ∙ c.index-hands-flop.is))
