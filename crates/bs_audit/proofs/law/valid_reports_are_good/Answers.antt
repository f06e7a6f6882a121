use Rattle.bs_scan.specs.Crash.{recording_of}
use Rattle.bs_scan.proofs.CrashLemmas.{recording_is}
use Rattle.bs_audit.proofs.WholeLemmas.{valid_good}
use Rattle.bs_audit.proofs.law.valid_reports_are_good.Goals as goal

pub returns : goal.returns
returns c =
    valid_good (recording_of c.args.net.now.raw c.args.choice.now c.args.runs.now)
    (recording_is c.args.net.now.raw c.args.choice.now c.args.runs.now c.raw-raw.ensures.checked c.depth-depth.ensures.sound.kept
    c.count-count.ensures.sound c.requires.choice c.requires.runs)
    c.predecessors_are_shown.ensures
