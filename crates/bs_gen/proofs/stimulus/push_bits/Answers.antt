use Rattle.std.proofs.Common.{ℕ, ◌+◌, arith}
use Rattle.std.specs.Prelude.{decimal}
use Rattle.rand_pcg.specs.Lcg.{Lcg}
use Rattle.bs_gen.specs.Draws.{pick}
use Rattle.bs_gen.specs.Stimulus.{bit_text}
use Rattle.bs_gen.proofs.DrawLemmas.{after_none, after_more}
use Rattle.bs_gen.proofs.EachLemmas.{each_none, drawn_step}
use Rattle.bs_gen.proofs.stimulus.push_bits.Goals as goal

pub bits-init : goal.bits-init
bits-init c = record {
  draws = after_none c.args.draws.now;
  text = each_none (bit_text c.args.draws.now) 0 c.args.text.now.items;
}

pub bits-preserved : goal.bits-preserved
bits-preserved c = record {
  draws = after_more c.bits.counter 1
      (c.bits.counter + 1) c.args.draws.now c.bits.draws c.push_bit.new.draws c.bits.invariant.draws c.in_ok-push_bit.ensures.draws (omega arith);
  text =
      drawn_step (λ (d : Lcg) (i : ℕ). decimal (pick d 2))
      (λ i. i) c.bits.counter c.args.draws.now c.bits.draws c.args.text.now.items c.bits.text.items c.push_bit.new.text.items
      c.bits.invariant.text c.bits.invariant.draws c.in_ok-push_bit.ensures.text;
}
