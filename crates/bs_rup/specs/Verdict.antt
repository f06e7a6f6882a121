-- What a verdict says of a log (docs/FORMATS.md, "The log").
use Rattle.std.specs.Prelude.{◌≡◌, ℕ, List, Option, Some, None}
use Rattle.bs_clause.specs.Literal.{Clause}
use Rattle.bs_log.specs.declared.line.Line.{Line}
use Rattle.bs_log.specs.declared.why.Why.{Why}
use Rattle.bs_log.specs.History.{Problem}
use Rattle.bs_log.specs.FirstRefused.{first_refused}
use Rattle.bs_log.specs.Refusal.{IsAccepted, IsFirstRefused}
use Rattle.bs_rup.specs.declared.verdict.Verdict.{Verdict}
use Rattle.bs_rup.specs.declared.verdict.Verdict.TheVariants.{Accepted, Rejected}

-- clauses over the variables 1 to vars, and the assumptions of each step
abbrev pub problem_of : ℕ → List Clause → List Clause → Problem
problem_of vars clauses steps = record { vars = vars; clauses = clauses; steps = steps }

-- the log is accepted, or this is its first refused line with the first reason
abbrev pub IsVerdict : Problem → List Line → Verdict → Type 0
IsVerdict p log Accepted = IsAccepted p log
IsVerdict p log (Rejected line why) = IsFirstRefused p log line why

-- the line that the verdict refuses, and its reason
abbrev pub refused_by : Verdict → Option (ℕ × Why)
refused_by Accepted = None
refused_by (Rejected line why) = Some (line, why)

-- the same as a function of the log: the verdict refuses the first refused line, and none where there is none
abbrev pub RefusesTheFirst : Problem → List Line → Verdict → Type 0
RefusesTheFirst p log verdict = refused_by verdict ≡ first_refused p log
