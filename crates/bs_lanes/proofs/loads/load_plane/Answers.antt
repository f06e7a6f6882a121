use Rattle.bs_lanes.proofs.LoadLemmas.{plain_load, enable_load, clear_load}
use Rattle.bs_lanes.proofs.loads.load_plane.Goals as goal
use Rattle.bs_lanes.proofs.loads.load_plane.Goals.{in-Plain, in-Enable, in-Clear}

pub returns : goal.returns
returns g c =
    elim c.match-flop.branch [
      | in-Plain w ↦ rw w.result-is (plain_load g.row.N _ c.args.flop _ w.in-Plain.is c.requires c.net_plane-input.ensures)
      | in-Enable w ↦ rw w.result-is (enable_load g.row.N _ c.args.flop _ _ _ _ _ w.in-Enable.is c.requires w.net_plane.ensures c.net_plane-input.ensures
          w.net_plane-in-Enable.ensures w.chosen.ensures)
      | in-Clear w ↦ rw w.result-is (clear_load g.row.N _ c.args.flop _ _ _ _ w.in-Clear.is c.requires w.net_plane-in-Clear.ensures c.net_plane-input.ensures
          w.cleared.ensures)
    ]
