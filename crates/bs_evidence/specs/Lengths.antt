-- The evidence that a state is not reached in a length, or in none that an answer refutes, and why there is none (docs/FORMATS.md, "Clauses for other checkers").
use Rattle.std.specs.Prelude.{ℕ, Bool, List, Option, IfSome}
use Rattle.bs_scan.specs.declared.seen.Seen.{Seen}
use Rattle.bs_net.specs.Circuit.{Circuit}
use Rattle.bs_log.specs.History.{Problem}
use Rattle.bs_log.specs.Walk.{IsOneOf}
use Rattle.bs_evidence.specs.declared.evidence.Format.{Format}
use Rattle.bs_evidence.specs.declared.flaw.Evidence.{Evidence}
use Rattle.bs_evidence.specs.declared.flaw.Evidence.TheVariants.{Text, Flawed}
use Rattle.bs_evidence.specs.declared.flaw.Flaw.{Flaw}
use Rattle.bs_evidence.specs.declared.flaw.Flaw.TheVariants as flaws
use Rattle.bs_evidence.specs.Evidence.{ShowsLog, IsLogFlaw, IsNoStep}
use Rattle.bs_reach.specs.declared.reach.Reach.{Reach}
use Rattle.bs_reach.specs.Reach.{tried_of, problem_in}

-- the problem of an answer's log: the clauses of as many time frames as were asked for, and a step for each length that was tried
abbrev pub problem_for : Circuit → Seen → Reach → Problem
problem_for c p r = problem_in c p r.asked r.outcome

-- the length is one of those that were tried
abbrev pub HasTried : Reach → ℕ → Type 0
HasTried r j = IsOneOf (tried_of r.asked r.outcome) j

-- what is asked for is one of these lengths, or nothing: all that the log refutes
abbrev pub HasAsked : Reach → Option ℕ → Type 0
HasAsked r asked = IfSome asked (HasTried r)

-- What is asked for is there, the log is accepted and finishes it, and this is the text.
pub record Shows (kind : Format) (c : Circuit) (p : Seen) (r : Reach) (asked : Option ℕ) (text : List ℕ) : Type 0 where
  pub there : HasAsked r asked
  pub log : ShowsLog kind (problem_for c p r) r.log asked text

-- why there is no text: the length was not tried, or what its log lacks
abbrev pub IsFlawed : Circuit → Seen → Reach → Option ℕ → Flaw → Type 0
IsFlawed c p r asked flaws.NoStep = IsNoStep (tried_of r.asked r.outcome) asked
IsFlawed c p r asked flaw = HasAsked r asked × IsLogFlaw (problem_for c p r) r.log asked flaw

-- the text, or why there is none
abbrev pub IsEvidence : Format → Circuit → Seen → Reach → Option ℕ → Evidence → Type 0
IsEvidence kind c p r asked (Text text) = Shows kind c p r asked text.items
IsEvidence kind c p r asked (Flawed flaw) = IsFlawed c p r asked flaw
