use Rattle.bs_solve_lemmas.proofs.Quiet.{unit_runs_are_on_quiet_trails, learnt_clauses_are_new, learnt_clauses_keep_quiet}
use Rattle.bs_solve_lemmas.proofs.law.quiet_trails.Goals as goal

pub returns-clause-runs : goal.returns-clause-runs
returns-clause-runs c = unit_runs_are_on_quiet_trails

pub returns-clause-new : goal.returns-clause-new
returns-clause-new c = learnt_clauses_are_new

pub returns-clause-quiet : goal.returns-clause-quiet
returns-clause-quiet c = learnt_clauses_keep_quiet
