use Rattle.std.proofs.Common.{ℕ, ◌+◌, ◌*◌, arith}
use Rattle.rand_pcg.specs.Lcg.{Lcg}
use Rattle.bs_gen.specs.Stimulus.{run_text, nth_run_text}
use Rattle.bs_gen.proofs.DrawLemmas.{after_none, after_more}
use Rattle.bs_gen.proofs.EachLemmas.{each_none, drawn_step}
use Rattle.bs_gen.proofs.stimulus.push_runs.Goals as goal

pub loop-i-init : goal.loop-i-init
loop-i-init c = record {
  draws = after_none c.args.draws.now;
  text = each_none (nth_run_text c.args.draws.now) 0 c.args.text.now.items;
}

pub loop-i-preserved : goal.loop-i-preserved
loop-i-preserved c = record {
  draws = after_more (1280 * c.loop-i.i) 1280
      (1280 * (c.loop-i.i + 1)) c.args.draws.now c.loop-i.draws c.push_run.new.draws c.loop-i.invariant.draws c.in_ok-push_run.ensures.draws (omega arith);
  text =
      drawn_step (λ (d : Lcg) (i : ℕ). run_text d (i + 1))
      (λ i. 1280 * i) c.loop-i.i c.args.draws.now c.loop-i.draws c.args.text.now.items c.loop-i.text.items c.push_run.new.text.items
      c.loop-i.invariant.text c.loop-i.invariant.draws c.in_ok-push_run.ensures.text;
}
