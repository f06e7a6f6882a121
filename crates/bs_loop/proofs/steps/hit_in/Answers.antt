use Rattle.bs_scan.specs.Moments.{first_moment}
use Rattle.bs_report.specs.Step.{listed}
use Rattle.bs_loop.proofs.MeetLemmas.{hit_first}
use Rattle.bs_loop.proofs.steps.hit_in.Goals as goal

pub hit_at-requires : goal.hit_at-requires
hit_at-requires c = (rw c.in-Told.is at c.requires.sight).1

pub returns-in-Told-clause-first : goal.returns-in-Told-clause-first
returns-in-Told-clause-first c =
    hit_first (first_moment c.args.chip.now.recording.circuit c.args.chip.now.recording.runs (listed c.args.cands.now)) c.in-Told.first c.hit_at.result
    (rw c.in-Told.is at c.requires.sight).0 c.hit_at.ensures.first
