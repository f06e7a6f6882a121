use Rattle.std.proofs.Common.{sym, subst}
use Rattle.bs_scan.specs.Crash.{DumpFits}
use Rattle.bs_scan.proofs.CrashLemmas.{dump_at_fits}
use Rattle.bs_top_files.specs.Entry.{recording_in}
use Rattle.bs_top_files.specs.Ready.{moment_files_in}
use Rattle.bs_top.proofs.dump_command.dump_of.Goals as goal

pub returns-clause-fits : goal.returns-clause-fits
returns-clause-fits c =
    let moment_files = moment_files_in c.args.moment_files.now in
    let recording = recording_in moment_files.setup in
    subst (DumpFits recording.circuit recording.choice) (sym c.in_ok-dump.ensures)
    (dump_at_fits recording moment_files.moment c.depth-depth.ensures.sound.kept)
