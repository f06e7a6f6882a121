-- The search for the candidates of a step: what it has found and logged.
use Rattle.std.specs.Prelude.{◌≡◌, ◌≢◌, ◌⊎◌, ℕ, ◌+◌, ◌-◌, ◌^◌, ◌<◌, ◌≤◌, Bool, true, false, List, [], ◌∷◌, ◌++◌, length, reverse, filter_map, All, Contains, Option}
use Rattle.std.specs.Prelude.{Some, None}
use Rattle.std.specs.List.{AllByRecursion, IsDistinct}
use Rattle.bs_bits.specs.Bits.{bits_eq}
use Rattle.bs_clause.specs.Literal.{Literal, Clause}
use Rattle.bs_clause.specs.UnitRun.{IsUnitRun}
use Rattle.bs_log.specs.declared.line.Line.{Line}
use Rattle.bs_log.specs.declared.line.Line.TheVariants.{Solve, Lemma, Block}
use Rattle.bs_log.specs.Steps.{block_of_line, last_solve, is_spent}
use Rattle.bs_encode.specs.Encoded.{Encoded}
use Rattle.bs_encode.specs.Assuming.{block_for}
use Rattle.bs_scan.specs.Moments.{is_listed}
use Rattle.bs_report.specs.declared.report.Cand.{Cand}
use Rattle.bs_report.specs.declared.report.ListEnd.{ListEnd}
use Rattle.bs_report.specs.declared.report.ListEnd.TheVariants.{Finished, Candidates, Conflicts}
use Rattle.bs_report.specs.Step.{listed}
use Rattle.bs_report.specs.Valid.{blocks_due}
use Rattle.bs_solve_lemmas.specs.declared.stage.Stage.TheVariants.{Blocked, Ended, Stopped}
use Rattle.bs_solve_lemmas.specs.ProofLog.{standing}
use Rattle.bs_solve_lemmas.specs.Search.{assumed}
use Rattle.bs_solve_lemmas.specs.Solver.{SolverState}
use Rattle.bs_solve.specs.Budget.{HasFewLemmas}
use Rattle.bs_preimage.specs.Turn.{IsOneOf, Keeps, HasNext, HasRefutedAll, HasSpent, activation_in, block_in}

-- a line inside a step
abbrev pub is_inner : Line → Bool
is_inner Solve = true
is_inner (Lemma id lits hints) = true
is_inner (Block id lits) = true
is_inner line = false

-- the lines of a step so far, the newest first, with a block for each candidate found
pub record HasLogged (e : Encoded) (start s : SolverState) (found : List Cand) : Type 0 where
  pub activations : s.vars ≡ start.vars
  pub vars : s.proof.problem.vars ≡ start.proof.problem.vars
  pub clauses : s.proof.problem.clauses ≡ start.proof.problem.clauses
  pub lines : List Line
  pub history : s.proof.history ≡ lines ++ start.proof.history
  pub inner : AllByRecursion (λ line. is_inner line ≡ true) lines
  pub blocks : filter_map block_of_line lines ≡ blocks_due (activation_in start.proof) (block_for e) (reverse found)
  pub stand : Keeps start.proof s.proof

-- the candidates found are shown or known, and no two are the same
pub record AreFound (e : Encoded) (assumptions : Clause) (known : Option Cand) (found : List Cand) : Type 0 where
  pub shown : All (IsOneOf e assumptions known) found
  pub apart : IsDistinct bits_eq (listed found)

-- each state that was found is blocked, and the assumptions are those of the step
pub record IsAgain (e : Encoded) (assumptions : Clause) (start s : SolverState) : Type 0 where
  pub stage : s.stage ≡ Blocked
  pub steps : s.proof.problem.steps ≡ start.proof.problem.steps ++ assumptions ∷ []
  pub assumed_is : assumed s.proof ≡ assumptions

-- the step has begun and nothing was found, or the last candidate was blocked
pub record IsUnderWay (e : Encoded) (assumptions : Clause) (known : Option Cand) (start s : SolverState) (found : List Cand) : Type 0 where
  pub logged : HasLogged e start s found
  pub cands : AreFound e assumptions known found
  pub blocked : All (λ cand. Contains (standing s.proof) (block_in e start.proof cand.state)) found
  pub stage : ((s ≡ start) × (found ≡ [])) ⊎ IsAgain e assumptions start s

-- the last solve of the lines, the newest first, logged the whole limit of lemmas, none of which ends the step
abbrev pub EndedBy : ℕ → ℕ → Clause → SolverState → List Line → ℕ → ListEnd → Type 0
EndedBy k limit assumptions s lines count (Finished id) = (s.stage ≡ Ended id) × (count < k)
EndedBy k limit assumptions s lines count Candidates = (s.stage ≡ Blocked) × (count ≡ k)
EndedBy k limit assumptions s lines count Conflicts =
    (s.stage ≡ Stopped) × (count < k) × (is_spent limit assumptions (last_solve (reverse lines)) ≡ true)

-- a known candidate is among k that were found
pub record HasKnown (known : Option Cand) (k : ℕ) (found : List Cand) : Type 0 where
  pub there : (cand : Cand) → known ≡ Some cand → k ≤ length found → is_listed (listed found) cand.state ≡ true

-- the solves logged no more lemmas than the limit, and fewer before a block, where those before did
pub record KeepsLimit (limit : ℕ) (start s : SolverState) : Type 0 where
  pub few : HasFewLemmas limit start.proof.history → HasFewLemmas limit s.proof.history

pub record HasEndedSearch (e : Encoded) (assumptions : Clause) (known : Option Cand) (k limit : ℕ) (start s : SolverState) (found : List Cand)
    (end : ListEnd) : Type 0 where
  pub logged : HasLogged e start s found
  pub cands : AreFound e assumptions known found
  pub with_known : HasKnown known k found
  pub limited : KeepsLimit limit start s
  pub steps : s.proof.problem.steps ≡ start.proof.problem.steps ++ assumptions ∷ []
  pub ended : EndedBy k limit assumptions s logged.lines (length found) end
  pub bound : end ≡ Conflicts → (run : List Literal) → IsUnitRun (standing start.proof) assumptions run → limit < 2 ^ (start.vars - length run)

-- the search so far: at most k candidates, a known one among k, and few lemmas in each solve
pub record IsSearching (e : Encoded) (assumptions : Clause) (known : Option Cand) (k limit : ℕ) (start s : SolverState) (found : List Cand) :
    Type 0 where
  pub way : IsUnderWay e assumptions known start s found
  pub most : length found ≤ k
  pub with_known : HasKnown known k found
  pub limited : KeepsLimit limit start s

-- the search ended before k candidates were found
pub record HasEndedSooner (e : Encoded) (assumptions : Clause) (k limit : ℕ) (start s : SolverState) (found : List Cand) (end : ListEnd) : Type 0 where
  pub search : HasEndedSearch e assumptions None k limit start s found end
  pub sooner : end ≢ Candidates

-- all candidates but one of k were found
pub record IsAtLast (e : Encoded) (assumptions : Clause) (k limit : ℕ) (start s : SolverState) (found : List Cand) : Type 0 where
  pub search : IsSearching e assumptions None k limit start s found
  pub one_left : length found + 1 ≡ k

-- a search for all candidates but one of k
abbrev pub HasComeTo : Encoded → Clause → ℕ → ℕ → SolverState → SolverState → List Cand → Option ListEnd → Type 0
HasComeTo e assumptions k limit start s found (Some end) = HasEndedSooner e assumptions k limit start s found end
HasComeTo e assumptions k limit start s found None = IsAtLast e assumptions k limit start s found

-- one candidate more
pub record HasOneMore (e : Encoded) (assumptions : Clause) (limit : ℕ) (found : List Cand) (known : Option Cand) (old new : SolverState)
    (after : List Cand) : Type 0 where
  pub cand : Cand
  pub next : HasNext e assumptions limit found known old new cand
  pub pushed : after ≡ found ++ cand ∷ []

-- the last candidate was found or known, or the search ended without it
abbrev pub HasFilled : Encoded → Clause → ℕ → List Cand → Option Cand → SolverState → SolverState → List Cand → ListEnd → Type 0
HasFilled e assumptions limit found known old new after (Finished id) = HasRefutedAll assumptions limit old new id × (after ≡ found)
HasFilled e assumptions limit found known old new after Candidates = HasOneMore e assumptions limit found known old new after
HasFilled e assumptions limit found known old new after Conflicts = HasSpent assumptions limit old new × (after ≡ found)
