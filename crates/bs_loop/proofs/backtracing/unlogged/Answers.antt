use Rattle.bs_scan.specs.Crash.{crash_of}
use Rattle.bs_report.proofs.WideLemmas.{wide_steps}
use Rattle.bs_loop.proofs.backtracing.unlogged.Goals as goal

pub reported-requires : goal.reported-requires
reported-requires c =
    rw c.walk.ensures.chip (wide_steps (crash_of c.args.chip.now.recording c.args.dump.now) c.in-Ok.way.steps (rw c.in-Ok.is at c.walk.ensures.made).right)
