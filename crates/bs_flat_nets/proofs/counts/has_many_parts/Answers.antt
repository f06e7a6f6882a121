use Rattle.std.proofs.Common.{◌≡◌, ℕ, ◌<◌, length, get_or, List, nat_lt, arith, ap, ◌∙◌}
use Rattle.std.proofs.lemmas.List.{get_or_default}
use Rattle.bs_flat_nets.specs.Blocks.{design_of}
use Rattle.bs_flat_nets.proofs.BoundLemmas.{count_decides}
use Rattle.bs_flat_nets.proofs.counts.has_many_parts.Goals as goal

pub at-requires : goal.at-requires
at-requires c =
    let wide : length c.as_slice.result.now ≡ length c.args.blocks.now = ap length c.as_slice.ensures.value ∙ c.in_ok-table.ensures.wide in
    omega (arith, wide, c.requires.top)

pub returns : goal.returns
returns c =
    let table = c.in_ok-table.table.items in
    let there : c.args.top < length table = omega (arith, c.in_ok-table.ensures.wide, c.requires.top) in
    ap (nat_lt 400001)
    (c.at.ensures ∙ (ap (λ (t : List ℕ). get_or t c.args.top 0) c.as_slice.ensures.value ∙ get_or_default table c.args.top 0 1 there))
    ∙ count_decides (design_of c.args.blocks.now c.args.top) c.args.order.now table c.requires.order c.requires.shallow c.in_ok-table.ensures.follows
