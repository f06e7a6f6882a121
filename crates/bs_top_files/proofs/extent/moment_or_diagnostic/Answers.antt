use Rattle.std.proofs.Common.{rules}
use Rattle.bs_scan.proofs.CrashLemmas.{placed_is}
use Rattle.bs_top_files.proofs.extent.moment_or_diagnostic.Goals as goal

pub returns-clause-recorded : goal.returns-clause-recorded
returns-clause-recorded c = placed_is c.args.runs.now c.args.run c.args.cycle (search rules) (search rules) (search rules)
