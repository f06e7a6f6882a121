use Rattle.std.proofs.Common.{◌-◌, refl, arith}
use Rattle.bs_net.specs.Netlist.{circuit}
use Rattle.bs_inspect_causes.proofs.SinceLemmas.{cycle_there, net_there, stands_begin, stands_more, stood_all, stood_here}
use Rattle.bs_inspect_causes.proofs.since.stood_since.Goals as goal

pub cycles-init : goal.cycles-init
cycles-init c =
    stands_begin (circuit c.args.moments.now.net) c.args.moments.now.states c.args.moments.now.inputs c.args.fact c.requires.real

pub turns-changed-requires-clause-net : goal.turns-changed-requires-clause-net
turns-changed-requires-clause-net c =
    net_there (circuit c.args.moments.now.net) c.args.moments.now.states c.args.moments.now.inputs c.args.fact c.requires.real

pub turns-changed-requires-clause-cycle : goal.turns-changed-requires-clause-cycle
turns-changed-requires-clause-cycle c =
    cycle_there (circuit c.args.moments.now.net) c.args.moments.now.states c.args.moments.now.inputs c.args.fact c.cycles.k
    (c.args.fact.cycle - c.cycles.k) c.requires.way c.requires.real c.cycles-test.true refl

pub returns-then-changed : goal.returns-then-changed
returns-then-changed c =
    stood_here (circuit c.args.moments.now.net) c.args.moments.now.states c.args.moments.now.inputs c.args.fact c.cycles.k
    (c.args.fact.cycle - c.cycles.k) c.turns-changed.result refl c.turns-changed.ensures c.if-changed.true c.cycles.invariant

pub cycles-preserved : goal.cycles-preserved
cycles-preserved c =
    stands_more (circuit c.args.moments.now.net) c.args.moments.now.states c.args.moments.now.inputs c.args.fact c.cycles.k
    (c.args.fact.cycle - c.cycles.k) c.turns-changed.result c.cycles-test.true refl c.turns-changed.ensures c.if-changed.false c.cycles.invariant

pub returns : goal.returns
returns c =
    stood_all (circuit c.args.moments.now.net) c.args.moments.now.states c.args.moments.now.inputs c.args.fact c.cycles.k
    (omega (arith, c.cycles-test.false)) c.cycles.invariant
