use Rattle.bs_gen.specs.Flops.{stage_flop}
use Rattle.bs_gen.proofs.EachLemmas.{each_none, each_step0}
use Rattle.bs_gen.proofs.flops.push_register.Goals as goal

pub loop-i-init : goal.loop-i-init
loop-i-init c = each_none (stage_flop c.args.register) 0 c.args.text.now.items

pub loop-i-preserved : goal.loop-i-preserved
loop-i-preserved c =
    each_step0 (stage_flop c.args.register) c.loop-i.i c.args.text.now.items c.loop-i.text.items c.push_stage_flop.new.text.items
    c.loop-i.invariant c.in_ok-push_stage_flop.ensures
