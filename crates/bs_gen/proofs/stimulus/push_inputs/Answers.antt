use Rattle.std.proofs.Common.{ℕ, ◌+◌, ◌*◌, arith}
use Rattle.rand_pcg.specs.Lcg.{Lcg}
use Rattle.bs_gen.specs.Stimulus.{input_line, nth_input_line}
use Rattle.bs_gen.proofs.DrawLemmas.{after_none, after_more}
use Rattle.bs_gen.proofs.EachLemmas.{each_none, drawn_step}
use Rattle.bs_gen.proofs.stimulus.push_inputs.Goals as goal

pub cycles-init : goal.cycles-init
cycles-init c = record {
  draws = after_none c.args.draws.now;
  text = each_none (nth_input_line c.args.draws.now) 0 c.args.text.now.items;
}

pub cycles-preserved : goal.cycles-preserved
cycles-preserved c = record {
  draws = after_more (5 * c.cycles.counter) 5
      (5 * (c.cycles.counter + 1)) c.args.draws.now c.cycles.draws c.push_input.new.draws c.cycles.invariant.draws c.in_ok-push_input.ensures.draws
      (omega arith);
  text =
      drawn_step (λ (d : Lcg) (i : ℕ). input_line d)
      (λ i. 5 * i) c.cycles.counter c.args.draws.now c.cycles.draws c.args.text.now.items c.cycles.text.items c.push_input.new.text.items
      c.cycles.invariant.text c.cycles.invariant.draws c.in_ok-push_input.ensures.text;
}
