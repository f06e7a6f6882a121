-- What an answer has, and what its log gives.
use Rattle.std.proofs.Common.{ℕ, ◌≤◌, Bool, List, Option, arith}
use Rattle.std.specs.Prelude.{IfOk, Result, Ok, Err}
use Rattle.bs_scan.specs.declared.seen.Seen.{Seen}
use Rattle.bs_net.specs.Circuit.{Circuit}
use Rattle.bs_evidence.specs.declared.evidence.Format.{Format}
use Rattle.bs_evidence.specs.declared.flaw.Evidence.{Evidence}
use Rattle.bs_evidence.specs.declared.flaw.Evidence.TheVariants.{Text, Flawed}
use Rattle.bs_evidence.specs.declared.flaw.Flaw.{Flaw}
use Rattle.bs_evidence.specs.declared.flaw.Flaw.TheVariants as flaws
use Rattle.bs_evidence.specs.Evidence.{IsLogEvidence, IsLogFlaw}
use Rattle.bs_reach.specs.declared.reach.Outcome.{Outcome}
use Rattle.bs_reach.specs.declared.reach.Outcome.TheVariants.{Reached, Unreached, Unknown}
use Rattle.bs_reach.specs.declared.reach.Reach.{Reach}
use Rattle.bs_reach.specs.Reach.{tried_of}
use Rattle.bs_reach_answer.specs.ReadingLaw.{HasExecution, HasAnswerText}
use Rattle.bs_evidence.specs.Lengths.{problem_for, HasAsked, IsFlawed, IsEvidence}

by_outcome : (asked : ℕ) (o : Outcome) (states inputs : List (List Bool)) → HasExecution asked o states inputs → tried_of asked o ≤ asked
by_outcome asked (Reached j) states inputs h = h.0
by_outcome asked Unreached states inputs h = omega arith
by_outcome asked (Unknown j) states inputs h = h.0

-- no length was tried that was not asked for
pub tried_fit : (r : Reach) → HasAnswerText r → tried_of r.asked r.outcome ≤ r.asked
tried_fit r h = by_outcome r.asked r.outcome r.states r.inputs h.execution

flaw_of : (c : Circuit) (p : Seen) (r : Reach) (asked : Option ℕ) (flaw : Flaw) → HasAsked r asked → IsLogFlaw (problem_for c p r) r.log asked flaw →
    IsFlawed c p r asked flaw
flaw_of c p r asked flaws.Format there lost = (there, lost)
flaw_of c p r asked flaws.Stop there lost = (there, lost)
flaw_of c p r asked (flaws.Present i) there lost = (there, lost)
flaw_of c p r asked (flaws.Stored i) there lost = (there, lost)
flaw_of c p r asked flaws.NoStep there lost = absurd lost
flaw_of c p r asked (flaws.Log line why) there is = (there, is)
flaw_of c p r asked flaws.Unfinished there is = (there, is)
flaw_of c p r asked flaws.Long there is = (there, is)

shown_of : (kind : Format) (c : Circuit) (p : Seen) (r : Reach) (asked : Option ℕ) (e : Evidence) → HasAsked r asked →
    IsLogEvidence kind (problem_for c p r) r.log asked e → IsEvidence kind c p r asked e
shown_of kind c p r asked (Text text) there is = record { there = there; log = is }
shown_of kind c p r asked (Flawed flaw) there is = flaw_of c p r asked flaw there is

pub asked_shown : {E : Type 0} (kind : Format) (c : Circuit) (p : Seen) (r : Reach) (asked : Option ℕ) (result : Result Evidence E) →
    HasAsked r asked → IfOk result (IsLogEvidence kind (problem_for c p r) r.log asked) → IfOk result (IsEvidence kind c p r asked)
asked_shown kind c p r asked (Ok e) there is = shown_of kind c p r asked e there is
asked_shown kind c p r asked (Err e) there is = tt
