-- A step of the log: the search for its candidates, and its end.
use Rattle.std.specs.Prelude.{◌≡◌, ℕ, ◌+◌, Bool, false, List, length, Option, Some, None}
use Rattle.bs_scan.specs.declared.seen.Seen.{Seen}
use Rattle.bs_clause.specs.Literal.{Clause}
use Rattle.bs_net.specs.Circuit.{Circuit}
use Rattle.bs_scan.specs.Choice.{Chosen}
use Rattle.bs_encode.specs.Encoded.{Encoded}
use Rattle.bs_encode.specs.Assuming.{assumptions_for, asking}
use Rattle.bs_report.specs.declared.report.Cand.{Cand}
use Rattle.bs_report.specs.declared.report.ListEnd.{ListEnd}
use Rattle.bs_report.specs.declared.report.ListEnd.TheVariants.{Finished, Candidates, Conflicts}
use Rattle.bs_solve_lemmas.specs.declared.stage.Stage.TheVariants.{Begun}
use Rattle.bs_solve_lemmas.specs.ProofLog.{ProofLog}
use Rattle.bs_solve_lemmas.specs.Solver.{SolverState, HasEnded}
use Rattle.bs_preimage.specs.declared.listing.Listing.{Listing}
use Rattle.bs_preimage.specs.Preimage.{PreimageState, next_activation}
use Rattle.bs_preimage.specs.Listed.{HasListed}
use Rattle.bs_preimage.specs.Rest.{IsAtRest}
use Rattle.bs_preimage.specs.Finding.{HasEndedSearch}

-- the lemma that ends a list's step, if there is one
abbrev pub ending_of : ListEnd → Option ℕ
ending_of (Finished id) = Some id
ending_of Candidates = None
ending_of Conflicts = None

-- a step has begun
abbrev pub begun : SolverState → SolverState
begun s = record { proof = s.proof; vars = s.vars + 1; stage = Begun; failed = false }

-- what the next step assumes of a state and its stored signatures
abbrev pub assumptions_at : Encoded → ProofLog → Seen → List Bool → Option (List Bool) → Clause
assumptions_at e b present stored older = assumptions_for e (next_activation b.problem) (asking present stored older)

-- a step was begun, searched and ended
pub record HasSought (e : Encoded) (old new : SolverState) (present : Seen) (stored : List Bool) (older : Option (List Bool)) (known : Option Cand)
    (k b : ℕ) (found : List Cand) (end : ListEnd) : Type 0 where
  pub middle : SolverState
  pub search : HasEndedSearch e (assumptions_at e old.proof present stored older) known k b (begun old) middle found end
  pub ended : HasEnded middle new (ending_of end)

-- a proof log of a circuit and its signature
abbrev pub seen : Circuit → Chosen → ProofLog → PreimageState
seen c choice proof =
    record {
      circuit = c;
      choice = choice;
      problem = proof.problem;
      history = proof.history;
      calls = 0;
      failed = false;
    }

-- the solver rests again, with one step more, which is that of the list
pub record HasMadeStep (c : Circuit) (choice : Chosen) (old new : SolverState) (present : Seen) (stored : List Bool) (older : Option (List Bool))
    (known : Option Cand) (k b : ℕ) (listing : Listing) : Type 0 where
  pub rest : IsAtRest new
  pub count : length new.proof.problem.steps ≡ length old.proof.problem.steps + 1
  pub listed : HasListed (seen c choice old.proof) (seen c choice new.proof) present stored older known k b listing
