use Rattle.std.proofs.lemmas.Bool.{eq-eqb}
use Rattle.bs_scan.specs.Choice.{depth_of}
use Rattle.bs_scan.specs.Crash.{crash_of, recording_of}
use Rattle.bs_audit.specs.Finding.{basis_for}
use Rattle.bs_audit.proofs.WholeLemmas.{leaves_fit, parts_are}
use Rattle.bs_audit.proofs.parts.part_within.Goals as goal

pub part_after-requires-clause-sound : goal.part_after-requires-clause-sound
part_after-requires-clause-sound c =
    leaves_fit (crash_of (recording_of c.args.net.now.raw c.args.choice.now c.args.runs.now) c.args.dump.now) c.args.report.now c.in_ok-walk.walk
    c.requires.dump c.in_ok-walk.ensures

pub returns : goal.returns
returns c =
    parts_are (crash_of (recording_of c.args.net.now.raw c.args.choice.now c.args.runs.now) c.args.dump.now)
    (basis_for (crash_of (recording_of c.args.net.now.raw c.args.choice.now c.args.runs.now) c.args.dump.now) c.args.report.now) c.args.report.now
    c.in_ok-walk.walk c.part_after.result (eq-eqb c.args.report.now.depth (depth_of c.args.choice.now) c.requires.depth) c.in_ok-walk.ensures
    c.part_after.ensures
