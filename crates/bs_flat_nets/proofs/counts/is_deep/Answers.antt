use Rattle.std.proofs.Common.{◌≡◌, ℕ, length, get_or, List, nat_lt, arith, ap, ◌∙◌}
use Rattle.bs_flat_nets.specs.Blocks.{design_of}
use Rattle.bs_flat_nets.proofs.BoundLemmas.{depth_decides}
use Rattle.bs_flat_nets.proofs.counts.is_deep.Goals as goal

pub at-requires : goal.at-requires
at-requires c =
    let wide : length c.as_slice.result.now ≡ length c.args.blocks.now = ap length c.as_slice.ensures.value ∙ c.in_ok-table.ensures.wide in
    omega (arith, wide, c.requires.top)

pub returns : goal.returns
returns c =
    ap (nat_lt 256) (c.at.ensures ∙ ap (λ (t : List ℕ). get_or t c.args.top 0) c.as_slice.ensures.value)
    ∙ depth_decides (design_of c.args.blocks.now c.args.top) c.args.order.now c.in_ok-table.table.items c.requires.order c.in_ok-table.ensures.follows
