use Rattle.std.proofs.Common.{ℕ, min, arith, ap, sym}
use Rattle.bs_flat_nets.specs.Tables.{depth_at}
use Rattle.bs_flat_nets.specs.declared.blocks.Child.{Child}
use Rattle.bs_flat_nets.proofs.TableLemmas.{tallest_none, tallest_more}
use Rattle.bs_flat_nets.proofs.counts.depth_of.Goals as goal

pub children-init : goal.children-init
children-init c = sym (ap (min 257) (tallest_none _))

pub children-preserved : goal.children-preserved
children-preserved c =
    let f : Child → ℕ = λ y. depth_at c.args.depths.now y.of in
    let more = tallest_more f c.args.children.now c.children.child-index c.child-item.result c.children-test.true in
    let item = ap f c.child-item.is in
    omega (arith, more, item)
