use Rattle.std.proofs.Common.{◌∙◌, List, ap, subst}
use Rattle.bs_net.specs.Circuit.{Circuit}
use Rattle.bs_net.specs.Netlist.{circuit}
use Rattle.bs_scan.specs.Moments.{Run}
use Rattle.bs_chip.specs.Lockstep.{Passing, TrackShows}
use Rattle.bs_chip.proofs.first_hit.equipped.Goals as goal

pub chip_of-requires-clause-circuit : goal.chip_of-requires-clause-circuit
chip_of-requires-clause-circuit c = ap (λ (q : Passing). q.circuit) c.in-Ok.ensures.pass ∙ c.net.ensures

pub chip_of-requires-clause-runs : goal.chip_of-requires-clause-runs
chip_of-requires-clause-runs c = ap (λ (q : Passing). q.runs) c.in-Ok.ensures.pass ∙ c.runs.ensures.inputs

pub chip_of-requires-clause-track : goal.chip_of-requires-clause-track
chip_of-requires-clause-track c =
    let p = c.args.player in
    let s = c.in-Ok.started in
    subst (λ (d : Circuit). TrackShows d p.runs s.track) c.net.ensures
    (subst (λ (runs : List Run). TrackShows (circuit c.net.result.now) runs s.track) c.runs.ensures.inputs c.in-Ok.ensures.track)
