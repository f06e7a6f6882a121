use Rattle.bs_rup.proofs.Verdicts.{first_of}
use Rattle.bs_rup.proofs.verdict.check.Goals as goal

pub returns-clause-first : goal.returns-clause-first
returns-clause-first c = first_of _ c.args.log.now c.verdict_of.result c.verdict_of.ensures
