use Rattle.bs_gen.specs.Flops.{counter_flop}
use Rattle.bs_gen.proofs.EachLemmas.{each_none, each_step0}
use Rattle.bs_gen.proofs.flops.push_counter_flops.Goals as goal

pub loop-bit-init : goal.loop-bit-init
loop-bit-init c = each_none counter_flop 0 c.args.text.now.items

pub loop-bit-preserved : goal.loop-bit-preserved
loop-bit-preserved c =
    each_step0 counter_flop c.loop-bit.bit c.args.text.now.items c.loop-bit.text.items c.push_counter_flop.new.text.items
    c.loop-bit.invariant c.in_ok-push_counter_flop.ensures
