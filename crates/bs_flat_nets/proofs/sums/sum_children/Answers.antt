use Rattle.std.proofs.Common.{◌≡◌, ℕ, ◌<◌, ◌+◌, map, length, get_or, List, nat_eq, arith, ap, sym, ◌∙◌, subst}
use Rattle.std.specs.List.{All, flat_map, IsDistinct}
use Rattle.bs_flat_meaning.specs.Design.{Join}
use Rattle.bs_flat_nets.specs.Blocks.{joins_of_run, own_of, instance_of, module_of}
use Rattle.bs_flat_nets.specs.Nets.{weigh}
use Rattle.bs_flat_nets.specs.Sums.{weight_in, IsFit}
use Rattle.bs_flat_nets.specs.declared.blocks.JoinedNets.{JoinedNets}
use Rattle.bs_flat_nets.specs.declared.blocks.Child.{Child}
use Rattle.bs_flat_nets.proofs.TableLemmas.{sum_none, sum_more}
use Rattle.bs_flat_nets.proofs.WeightLemmas.{known_is, fit_within, weight_is}
use Rattle.bs_flat_nets.proofs.sums.sum_children.Goals as goal

pub each-init : goal.each-init
each-init c =
    let none = sum_none (λ (y : Child). weight_in c.args.sort (map module_of c.args.blocks.now) (instance_of y) + get_or c.args.sums.now y.of 0) in
    omega (arith, none)

pub weight-own-requires : goal.weight-own-requires
weight-own-requires c =
    let blocks = c.args.blocks.now in
    let child = c.child-item.result in
    let there : child.of < length blocks =
    subst (λ (y : Child). y.of < length blocks) (sym c.child-item.is) (c.requires.there c.each.child-index child c.each-test.true) in
    let fit : IsFit blocks child = subst (λ (y : Child). IsFit blocks y) (sym c.child-item.is) (c.requires.fit c.each.child-index child c.each-test.true) in
    let b = c.index-blocks-child.result in
    record {
      bits =
          c.slice-known.ensures
          ∙ known_is blocks c.args.bits.now child.of b c.index-bits-child.result c.requires.bits there c.index-blocks-child.is c.index-bits-child.is;
      within =
          subst (λ (rs : List JoinedNets). All (λ (j : Join). j.inner.0 < length b.names) (flat_map joins_of_run rs)) (sym c.slice.ensures)
          (fit_within blocks child b fit there c.index-blocks-child.is);
      once = subst (λ (rs : List JoinedNets). IsDistinct nat_eq (map (λ (j : Join). j.inner.0) (flat_map joins_of_run rs))) (sym c.slice.ensures) fit.once;
    }

pub each-preserved : goal.each-preserved
each-preserved c =
    let blocks = c.args.blocks.now in
    let child = c.child-item.result in
    let b = c.index-blocks-child.result in
    let f : Child → ℕ = λ y. weight_in c.args.sort (map module_of blocks) (instance_of y) + get_or c.args.sums.now y.of 0 in
    let there : child.of < length blocks =
    subst (λ (y : Child). y.of < length blocks) (sym c.child-item.is) (c.requires.there c.each.child-index child c.each-test.true) in
    let more = sum_more f c.args.children.now c.each.child-index child c.each-test.true in
    let item = ap f c.child-item.is in
    let own : c.weight-own.result ≡ weight_in c.args.sort (map module_of blocks) (instance_of child) =
    c.weight-own.ensures
    ∙ (ap (λ (rs : List JoinedNets). weigh c.args.sort (own_of b) (flat_map joins_of_run rs)) c.slice.ensures
    ∙ sym (weight_is c.args.sort blocks child b there c.index-blocks-child.is)) in
    omega (arith, more, item, own)
