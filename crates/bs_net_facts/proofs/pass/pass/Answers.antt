use Rattle.std.proofs.Common.{arith, refl}
use Rattle.bs_net_facts.proofs.PassLemmas.{before_first, before_next, before_last}
use Rattle.bs_net_facts.proofs.pass.pass.Goals as goal

pub cycles-init : goal.cycles-init
cycles-init c =
    before_first c.args.board.now.net c.args.block.now c.args.first c.args.board.now c.args.kept.now.items refl c.requires.blank c.requires.none
    c.requires.before

pub cycles-preserved : goal.cycles-preserved
cycles-preserved c =
    before_next c.args.board.now.net c.args.block.now c.cycles.cycle c.cycles.board c.mark_cycle.new.board c.clear.new.self c.cycles.kept.items
    c.as_slice.result.now c.carry.new.kept.items c.marks.result.now c.marks-in-cycles.result.now c.net.result.now c.cycles.invariant c.as_slice.ensures.value
    c.in_ok-next.ensures c.marks.ensures.marks (c.is_told.ensures c.if-not-is_told.false) c.marks-in-cycles.ensures.marks c.net.ensures
    c.in_ok-carry.ensures c.clear.ensures.net c.clear.ensures.blank (omega (arith, c.cycles-test.true))

pub returns : goal.returns
returns c = λ yes.
    before_last c.args.board.now.net c.args.block.now c.args.first c.cycles.cycle c.cycles.board c.cycles.kept.items c.cycles.invariant c.requires.before
    (omega (arith, c.cycles-test.false)) c.cycles.auto.cycle-end
