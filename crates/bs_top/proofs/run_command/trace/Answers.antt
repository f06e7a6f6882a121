use Rattle.bs_scan.specs.Crash.{recording_of}
use Rattle.bs_scan.proofs.CrashLemmas.{crash_is, recording_is}
use Rattle.bs_top.proofs.SoundLemmas.{backtrace_ok}
use Rattle.bs_top.proofs.run_command.trace.Goals as goal

pub returns-in-Ok-clause-backtrace : goal.returns-in-Ok-clause-backtrace
returns-in-Ok-clause-backtrace c =
    let setup = c.args.setup.now in
    let recorded = recording_of setup.net.raw setup.choice setup.runs in
    backtrace_ok recorded _ c.args.dump.now c.args.budgets.now _ c.requires.chip
    (crash_is recorded c.args.dump.now
    (recording_is setup.net.raw setup.choice setup.runs c.order-order.ensures.checked c.depth-depth.ensures.sound.kept
    c.count-count.ensures.sound setup.states setup.inputs)
    c.requires.dump)
    c.backtrace.ensures.budgets c.backtrace.ensures.good c.backtrace.ensures.valid c.backtrace.ensures.progress c.backtrace.ensures.lean
    c.backtrace.ensures.bound c.backtrace.ensures.searched c.backtrace.ensures.takes c.backtrace.ensures.readable
