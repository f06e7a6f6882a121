use Rattle.std.proofs.Common.{◌≡◌, ◌++◌, ◌∷◌, [], ◌-◌, ◌∙◌, ap, sym, append_assoc, arith}
use Rattle.std.specs.List.{range_with_len}
use Rattle.bs_flat_nets.proofs.GapLemmas.{range_to_more}
use Rattle.bs_flat_nets.proofs.free.push_range.Goals as goal

pub nets-preserved : goal.nets-preserved
nets-preserved c =
    c.in_ok-push.ensures.ok
    ∙ (ap (λ u. u ++ c.nets.net ∷ []) c.nets.invariant
    ∙ (append_assoc c.args.into.now (range_with_len c.args.from (c.nets.net - c.args.from)) (c.nets.net ∷ [])
    ∙ ap (λ u. c.args.into.now ++ u) (sym (range_to_more c.args.from c.nets.net c.nets.auto.net))))

pub returns : goal.returns
returns c =
    let end : c.nets.net ≡ c.args.to = omega (arith, c.nets.auto.net-end c.requires, c.nets-test.false) in
    c.nets.invariant ∙ ap (λ n. c.args.into.now ++ range_with_len c.args.from (n - c.args.from)) end
