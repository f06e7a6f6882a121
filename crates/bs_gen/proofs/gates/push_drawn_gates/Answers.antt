use Rattle.std.proofs.Common.{◌+◌, ◌*◌, arith}
use Rattle.bs_gen.specs.Gates.{drawn_line, nth_drawn_line}
use Rattle.bs_gen.proofs.DrawLemmas.{after_none, after_more}
use Rattle.bs_gen.proofs.EachLemmas.{each_none, drawn_step}
use Rattle.bs_gen.proofs.gates.push_drawn_gates.Goals as goal

pub loop-j-init : goal.loop-j-init
loop-j-init c = record {
  draws = after_none c.args.draws.now;
  text = each_none (nth_drawn_line c.args.draws.now) 0 c.args.text.now.items;
}

pub loop-j-preserved : goal.loop-j-preserved
loop-j-preserved c = record {
  draws = after_more (3 * c.loop-j.j) 3 (3 *
      (c.loop-j.j + 1)) c.args.draws.now c.loop-j.draws c.push_drawn_gate.new.draws c.loop-j.invariant.draws c.in_ok-push_drawn_gate.ensures.draws
      (omega arith);
  text =
      drawn_step drawn_line (λ j. 3 * j) c.loop-j.j c.args.draws.now c.loop-j.draws c.args.text.now.items c.loop-j.text.items c.push_drawn_gate.new.text.items
      c.loop-j.invariant.text c.loop-j.invariant.draws c.in_ok-push_drawn_gate.ensures.text;
}
