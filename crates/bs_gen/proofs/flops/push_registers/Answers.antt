use Rattle.bs_gen.specs.Flops.{register_flops}
use Rattle.bs_gen.proofs.EachLemmas.{each_none, each_step0}
use Rattle.bs_gen.proofs.flops.push_registers.Goals as goal

pub loop-register-init : goal.loop-register-init
loop-register-init c = each_none register_flops 0 c.args.text.now.items

pub loop-register-preserved : goal.loop-register-preserved
loop-register-preserved c =
    each_step0 register_flops c.loop-register.register c.args.text.now.items c.loop-register.text.items c.push_register.new.text.items
    c.loop-register.invariant c.in_ok-push_register.ensures
