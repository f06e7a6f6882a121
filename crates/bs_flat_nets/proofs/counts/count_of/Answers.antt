use Rattle.std.proofs.Common.{ℕ, ◌<◌, length, arith, ap, sym, subst}
use Rattle.std.proofs.lemmas.List.{get_or_default}
use Rattle.bs_flat_nets.specs.Tables.{count_at}
use Rattle.bs_flat_nets.specs.declared.blocks.Child.{Child}
use Rattle.bs_flat_nets.proofs.TableLemmas.{sum_none, sum_more}
use Rattle.bs_flat_nets.proofs.counts.count_of.Goals as goal

pub children-init : goal.children-init
children-init c =
    let none = sum_none (λ (y : Child). count_at c.args.counts.now y.of) in
    omega (arith, none)

pub children-preserved : goal.children-preserved
children-preserved c =
    let f : Child → ℕ = λ y. count_at c.args.counts.now y.of in
    let more = sum_more f c.args.children.now c.children.child-index c.child-item.result c.children-test.true in
    let item = ap f c.child-item.is in
    let there : c.child-item.result.of < length c.args.counts.now =
    subst (λ (y : Child). y.of < length c.args.counts.now) (sym c.child-item.is)
    (c.requires.there c.children.child-index c.child-item.result c.children-test.true) in
    let read = get_or_default c.args.counts.now c.child-item.result.of 0 1 there in
    omega (arith, more, item, read)
