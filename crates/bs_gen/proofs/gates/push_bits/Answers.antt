use Rattle.std.proofs.Common.{◌+◌, ◌-◌, arith}
use Rattle.bs_gen.specs.Gates.{bit_lines}
use Rattle.bs_gen.proofs.EachLemmas.{each_none, each_step}
use Rattle.bs_gen.proofs.gates.push_bits.Goals as goal

pub loop-bit-init : goal.loop-bit-init
loop-bit-init c = each_none bit_lines 2 c.args.text.now.items

pub loop-bit-preserved : goal.loop-bit-preserved
loop-bit-preserved c =
    each_step bit_lines 2 (c.loop-bit.bit - 2) c.loop-bit.bit (c.loop-bit.bit + 1 - 2) c.args.text.now.items c.loop-bit.text.items c.push_bit.new.text.items
    c.loop-bit.invariant c.in_ok-push_bit.ensures (omega (arith, c.loop-bit.auto.bit)) (omega (arith, c.loop-bit.auto.bit))
