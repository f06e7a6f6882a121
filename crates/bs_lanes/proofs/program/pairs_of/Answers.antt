use Rattle.std.proofs.Common.{◌≡◌, ◌∙◌, ap, get_or}
use Rattle.std.proofs.lemmas.List.{get_or_read}
use Rattle.bs_net.specs.Order.{no_gate}
use Rattle.bs_lanes.specs.Layout.{placed_gate}
use Rattle.bs_lanes.proofs.ProgramLemmas.{one_more_pair}
use Rattle.bs_lanes.proofs.program.pairs_of.Goals as goal

pub gates-preserved : goal.gates-preserved
gates-preserved c =
    let number = get_or c.args.order.now c.gates.i 0 in
    let lt = c.requires.numbered c.gates.i 0 c.gates-test.true in
    let gate = c.index-gates-order.result in
    let is : gate ≡ get_or c.args.gates.now number no_gate = get_or_read c.args.gates.now number gate lt c.index-gates-order.is no_gate in
    rw c.in_ok-push-in-Some.ensures.ok
    (one_more_pair c.args.places.now c.args.order.now c.args.gates.now c.args.kind c.args.start c.gates.pairs c.in-Some.pair c.gates.i c.gates-test.true
    (c.in-Some.ensures.some ∙ ap (placed_gate c.args.places.now) is) c.gates.invariant.count c.gates.invariant.so_far)
