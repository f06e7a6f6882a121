use Rattle.bs_scan.specs.Crash.{recording_of}
use Rattle.bs_scan.proofs.CrashLemmas.{crash_is, recording_is}
use Rattle.bs_top.proofs.SoundLemmas.{finds_ok}
use Rattle.bs_top.proofs.audit_command.find.Goals as goal

pub returns : goal.returns
returns c =
    let crash_files = c.args.audit_files.now.crash_files in
    let setup = crash_files.setup in
    finds_ok _ _ _
    (crash_is (recording_of setup.net.raw setup.choice setup.runs) crash_files.dump
    (recording_is setup.net.raw setup.choice setup.runs c.order-order.ensures.checked c.depth-depth.ensures.sound.kept
    c.count-count.ensures.sound setup.states setup.inputs) crash_files.fits)
    c.audit.ensures.finding c.audit.ensures.good
