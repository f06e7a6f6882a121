use Rattle.std.proofs.Common.{length, subst}
use Rattle.bs_chip.specs.Index.{AddsLanes}
use Rattle.bs_chip.specs.Lockstep.{Passing}
use Rattle.bs_chip.proofs.IndexLemmas.{firsts_more}
use Rattle.bs_chip.proofs.lockstep.Pass.note.Goals as goal

pub returns-clause-firsts : goal.returns-clause-firsts
returns-clause-firsts c =
    let old = c.args.first.now in
    let new = c.note_lanes.new.first in
    let planes = c.args.planes.now in
    firsts_more c.args.self.now.circuit c.args.self.now.runs old new planes c.args.width c.args.cycle c.requires.width c.requires.shows c.requires.notes
    c.requires.firsts
    (subst (λ (q : Passing). AddsLanes q.runs old new planes c.args.width c.args.cycle (length q.runs)) c.self.view_is c.note_lanes.ensures.adds)
