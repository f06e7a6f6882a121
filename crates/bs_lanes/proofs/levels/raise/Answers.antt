use Rattle.std.proofs.Common.{◌≡◌, ◌<◌, ◌*◌, ◌∙◌, arith, subst, sym, get_or, length, length-set}
use Rattle.std.proofs.lemmas.List.{get_or_read}
use Rattle.bs_net.specs.declared.net.Gate.{Gate}
use Rattle.bs_net.specs.Order.{no_gate}
use Rattle.bs_lanes.proofs.LevelLemmas.{one_raised, raised_low, raised_end, low_end}
use Rattle.bs_lanes.proofs.levels.raise.Goals as goal

pub gates-preserved : goal.gates-preserved
gates-preserved c =
    let number = get_or c.args.order.now c.gates.i 0 in
    let lt = c.requires.numbered c.gates.i 0 c.gates-test.true in
    let gate = c.index-gates-order.result in
    let is : gate ≡ get_or c.args.gates.now number no_gate = get_or_read c.args.gates.now number gate lt c.index-gates-order.is no_gate in
    let P : Gate → Type 0 = λ h. h.out.0 < length c.args.levels.now in
    let out : gate.out.0 < length c.gates.levels = omega (arith, subst P (sym is) (c.requires.outs number no_gate lt), c.gates.invariant.size) in
    rw c.raise_one.ensures
    (record {
      size = length-set c.gates.levels gate.out.0 _ ∙ c.gates.invariant.size;
      left = sym (one_raised c.args.gates.now c.args.order.now c.gates.i c.gates.levels gate c.gates-test.true is) ∙ c.gates.invariant.left;
      low = raised_low c.gates.levels c.gates.i gate c.gates.invariant.low out;
    })

pub returns : goal.returns
returns c =
    record {
      levels = sym (raised_end c.args.gates.now c.args.order.now c.gates.i c.gates.levels c.gates-test.false) ∙ c.gates.invariant.left;
      low = low_end c.gates.levels (c.gates.i * 32) (length c.args.order.now * 32) (omega (arith, c.gates.auto.i-end)) c.gates.invariant.low;
    }
