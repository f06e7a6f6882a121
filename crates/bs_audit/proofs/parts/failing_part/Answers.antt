use Rattle.std.proofs.Common.{◌∙◌, sym}
use Rattle.std.proofs.lemmas.Bool.{ne_eqb}
use Rattle.bs_scan.specs.Choice.{depth_of}
use Rattle.bs_scan.specs.Crash.{crash_of, recording_of}
use Rattle.bs_audit.specs.Finding.{basis_for}
use Rattle.bs_audit.proofs.WholeLemmas.{format_fails}
use Rattle.bs_audit.proofs.parts.failing_part.Goals as goal

pub returns-then-report-depth : goal.returns-then-report-depth
returns-then-report-depth c =
    format_fails (crash_of (recording_of c.args.net.now.raw c.args.choice.now c.args.runs.now) c.args.dump.now)
    (basis_for (crash_of (recording_of c.args.net.now.raw c.args.choice.now c.args.runs.now) c.args.dump.now) c.args.report.now) c.args.report.now
    (ne_eqb c.args.report.now.depth (depth_of c.args.choice.now) (λ e. c.if-report-depth.true (e ∙ sym c.depth.ensures.depth)))
