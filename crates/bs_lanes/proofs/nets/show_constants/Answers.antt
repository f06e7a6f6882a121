use Rattle.std.proofs.Common.{arith, false}
use Rattle.bs_lanes.proofs.SettlingLemmas.{one_constant, keeps_plane}
use Rattle.bs_lanes.proofs.nets.show_constants.Goals as goal

pub constants-preserved : goal.constants-preserved
constants-preserved g c =
    let room = keeps_plane g.row.N _ _ c.constants.nets c.constants.invariant.size (c.requires.placed c.constants.i _ c.constants-test.true) in
    rw c.put_plane.ensures
    (one_constant g.row.N c.args.consts.now c.constants.i _ c.args.nets.now c.constants.nets _ _ c.constants-test.true c.constants.invariant room
    c.splat_of-plane.ensures)

pub splat_of-plane-requires : goal.splat_of-plane-requires
splat_of-plane-requires g c = omega (arith, c.requires.placed c.constants.i (record { net = record { 0 = 0 }; value = false }) c.constants-test.true)
