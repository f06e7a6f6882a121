use Rattle.std.proofs.Common.{◌≡◌, ℕ, ◌<◌, ◌+◌, min, map, length, get_or, List, [], nat_eq, arith, ap, sym, ◌∙◌, subst}
use Rattle.std.specs.List.{All, flat_map, IsDistinct}
use Rattle.bs_net.specs.Parts.{Parts}
use Rattle.bs_flat_meaning.specs.Design.{Join, own, module_at}
use Rattle.bs_flat_meaning.specs.declared.limits.TheConstants.{MAX_DEPTH}
use Rattle.bs_flat_nets.specs.Blocks.{joins_of_run, own_of, module_of, design_of}
use Rattle.bs_flat_nets.specs.Nets.{weigh, below_sum}
use Rattle.bs_flat_nets.specs.Sums.{weight_in}
use Rattle.bs_flat_nets.specs.declared.blocks.JoinedNets.{JoinedNets}
use Rattle.bs_flat_nets.proofs.SumLemmas.{sum_decides}
use Rattle.bs_flat_nets.proofs.WeightLemmas.{known_is, top_own, nothing_distinct}
use Rattle.bs_flat_nets.proofs.sums.total.Goals as goal

pub at-below-requires : goal.at-below-requires
at-below-requires c =
    let wide : length c.as_slice.result.now ≡ length c.args.blocks.now = ap length c.as_slice.ensures.value ∙ c.in_ok-table.ensures.wide in
    omega (arith, wide, c.requires.top)

pub weight-own-requires : goal.weight-own-requires
weight-own-requires c =
    let b = c.index-blocks-top.result in
    let none : c.slice.result.now ≡ [] = c.slice.ensures ∙ c.no_runs-none.ensures in
    record {
      bits =
          c.slice-known.ensures
          ∙ known_is c.args.blocks.now c.args.bits.now c.args.top b c.index-bits-top.result c.requires.bits c.requires.top c.index-blocks-top.is
          c.index-bits-top.is;
      within =
          subst (λ (rs : List JoinedNets). All (λ (j : Join). j.inner.0 < length b.names) (flat_map joins_of_run rs)) (sym none) (λ k d lt. absurd (omega (arith, lt)));
      once = subst (λ (rs : List JoinedNets). IsDistinct nat_eq (map (λ (j : Join). j.inner.0) (flat_map joins_of_run rs))) (sym none) nothing_distinct;
    }

pub returns : goal.returns
returns c =
    let d = design_of c.args.blocks.now c.args.top in
    let b = c.index-blocks-top.result in
    let g = weight_in c.args.sort (map module_of c.args.blocks.now) in
    let none : c.slice.result.now ≡ [] = c.slice.ensures ∙ c.no_runs-none.ensures in
    let first : c.weight-own.result ≡ weigh c.args.sort (own d []) [] =
    c.weight-own.ensures
    ∙ (ap (λ (rs : List JoinedNets). weigh c.args.sort (own_of b) (flat_map joins_of_run rs)) none
    ∙ ap (λ (o : Parts). weigh c.args.sort o []) (sym (top_own c.args.blocks.now c.args.top b c.requires.top c.index-blocks-top.is))) in
    let below : c.at-below.result ≡ min 100001 (below_sum MAX_DEPTH d g (module_at d [])) =
    c.at-below.ensures
    ∙ (ap (λ (t : List ℕ). get_or t c.args.top 0) c.as_slice.ensures.value
    ∙ sum_decides d g 100001 c.args.order.now c.in_ok-table.table.items c.requires.order c.requires.shallow c.in_ok-table.ensures.follows) in
    let is : c.min.result ≡ min 100001 (weigh c.args.sort (own d []) [] + below_sum MAX_DEPTH d g (module_at d [])) = omega (arith, first, below) in
    is
