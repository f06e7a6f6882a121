use Rattle.std.proofs.Common.{length, refl}
use Rattle.bs_lanes.proofs.SettlingLemmas.{one_put, keeps_plane}
use Rattle.bs_lanes.proofs.nets.show_nets.Goals as goal

pub nets-preserved : goal.nets-preserved
nets-preserved g c =
    let room = keeps_plane g.row.N _ _ c.nets.nets c.nets.invariant.size (c.requires.placed c.nets.i _ c.nets-test.true) in
    rw c.put_plane.ensures
    (one_put g.row.N (length c.args.shown.now) c.args.shown.now c.nets.i _ c.args.planes.now c.args.nets.now c.nets.nets _ _ refl c.nets-test.true
    c.nets.invariant room c.plane_at-plane.ensures)
