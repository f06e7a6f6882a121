-- What a log is about.
use Rattle.bs_log.specs.History.{Problem}
use Rattle.bs_evidence.specs.declared.logged.Logged.{Logged}

abbrev pub problem_of : Logged → Problem
problem_of l = record { vars = l.vars; clauses = l.clauses.now; steps = l.steps.now }
