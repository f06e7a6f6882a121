use Rattle.std.proofs.Common.{subst}
use Rattle.std.specs.Prelude.{IfOk}
use Rattle.bs_scan.specs.declared.dump.Dump.{Dump}
use Rattle.bs_scan.specs.Crash.{crash_of}
use Rattle.bs_top_files.specs.Entry.{recording_in}
use Rattle.bs_top_files.specs.Ready.{moment_files_in}
use Rattle.bs_outside.specs.declared.status.Status.TheVariants.{Done}
use Rattle.bs_top.specs.Finishes.{Summarises}
use Rattle.bs_top.proofs.demo_command.summary_of.Goals as goal

pub traced_line-requires : goal.traced_line-requires
traced_line-requires c = c.in-Ok.ensures.fits

pub returns-in-Ok : goal.returns-in-Ok
returns-in-Ok c =
    subst (λ (d : Dump). IfOk c.traced_line.result
    (λ text. Summarises c.args.number (crash_of (recording_in (moment_files_in c.args.moment_files.now).setup) d) Done text.items)) c.in-Ok.ensures.dump
    c.traced_line.ensures
