use Rattle.bs_gen.specs.Gates.{carry_terminal}
use Rattle.bs_gen.proofs.EachLemmas.{each_none, each_step0}
use Rattle.bs_gen.proofs.gates.push_carry_terminals.Goals as goal

pub loop-i-init : goal.loop-i-init
loop-i-init c = each_none carry_terminal 0 c.args.text.now.items

pub loop-i-preserved : goal.loop-i-preserved
loop-i-preserved c =
    each_step0 carry_terminal c.loop-i.i c.args.text.now.items c.loop-i.text.items c.push_carry_terminal.new.text.items
    c.loop-i.invariant c.in_ok-push_carry_terminal.ensures
