-- What a list of candidates is, and what it adds to the log.
use Rattle.std.specs.Prelude.{◌≡◌, ℕ, ◌-◌, ◌^◌, ◌<◌, Bool, true, false, List, [], ◌∷◌, ◌++◌, reverse, length, Option, Some, All, IsTrue}
use Rattle.std.specs.Option.{option_to_list}
use Rattle.bs_scan.specs.declared.seen.Seen.{Seen}
use Rattle.bs_clause.specs.Literal.{Literal}
use Rattle.bs_clause.specs.UnitRun.{IsUnitRun}
use Rattle.bs_clause.specs.Range.{HasVariables}
use Rattle.bs_log.specs.declared.line.Line.{Line}
use Rattle.bs_log.specs.Steps.{steps_of}
use Rattle.bs_scan.specs.Signature.{predecessors}
use Rattle.bs_encode.specs.Assuming.{block_for}
use Rattle.bs_scan.specs.Moments.{is_listed}
use Rattle.bs_net.specs.Circuit.{Circuit}
use Rattle.bs_scan.specs.Choice.{Chosen}
use Rattle.bs_solve.specs.Budget.{HasFewLemmas}
use Rattle.bs_report.specs.declared.report.Cand.{Cand}
use Rattle.bs_report.specs.declared.report.ListEnd.TheVariants.{Candidates, Conflicts}
use Rattle.bs_report.specs.Step.{listed, Ascend, IsCandidate, IsRightEnd}
use Rattle.bs_report.specs.Valid.{is_right_before, HaveBefores, blocks_due, are_right_blocks, blocks_in, is_right_finish, finishes_in}
use Rattle.bs_preimage.specs.declared.listing.Listing.{Listing}
use Rattle.bs_preimage.specs.Asking.{HasAsked}
use Rattle.bs_preimage.specs.Preimage.{PreimageState, encoding_in, next_activation, assumptions_in, GoesOn}

-- a predecessor with an input under which it leads to a state that shows the present one, and with the right state before it
pub record IsRightCand (c : Circuit) (choice : Chosen) (present : Seen) (stored : List Bool) (older : Option (List Bool)) (cand : Cand) : Type 0 where
  pub candidate : IsCandidate c choice present (stored ∷ option_to_list older) cand
  pub before : IsTrue (is_right_before c choice older cand.state cand.before)

-- At most k candidates are listed, a known one among k of them, and b is the budget of lemmas in a solve. The log has one more
-- step: what it assumes, and its lines, with a block for each candidate; a solve has at most b lemmas, and fewer before a block.
-- A solve does not come to its budget where a unit run over the encoding and what
-- the step assumes leaves so few of the encoding's variables open that b is at least the number of their values.
pub record HasListed (old new : PreimageState) (present : Seen) (stored : List Bool) (older : Option (List Bool)) (known : Option Cand) (k b : ℕ)
    (listing : Listing) : Type 0 where
  pub was_well : old.failed ≡ false
  pub well : new.failed ≡ false
  pub goes_on : GoesOn old new
  pub steps : new.problem.steps ≡ old.problem.steps ++ assumptions_in old present stored older ∷ []
  pub lines : List Line
  pub step_lines : steps_of (reverse new.history) ≡ steps_of (reverse old.history) ++ lines ∷ []
  pub ascend : Ascend (listed listing.cands)
  pub candidates : All (IsCandidate old.circuit old.choice present (stored ∷ option_to_list older)) listing.cands
  pub befores : HaveBefores old.circuit old.choice older listing.cands
  pub ends : IsRightEnd (predecessors old.circuit old.choice present (stored ∷ option_to_list older)) k b lines listing.cands listing.end
  pub blocks : are_right_blocks (blocks_due (next_activation old.problem) (block_for (encoding_in old)) listing.cands) (blocks_in lines) ≡ true
  pub finish : is_right_finish b (assumptions_in old present stored older) lines listing.end (finishes_in lines) ≡ true
  pub with_known : (cand : Cand) → known ≡ Some cand → listing.end ≡ Candidates → is_listed (listed listing.cands) cand.state ≡ true
  pub few : HasFewLemmas b old.history → HasFewLemmas b new.history
  pub bound : listing.end ≡ Conflicts → (run : List Literal) → HasVariables (encoding_in old).variables run →
      IsUnitRun (encoding_in old).clauses (assumptions_in old present stored older) run → b < 2 ^ ((encoding_in old).variables - length run)

-- The same, where a source is asked for what is known, once at most, and not before one place is left.
abbrev pub HasListedAsking : {S : Type 0} → (S → Option Cand → S → Type 0) → S → S → PreimageState → PreimageState → Seen → List Bool →
    Option (List Bool) → ℕ → ℕ → Listing → Type 0
HasListedAsking knows source after old new present stored older k b listing =
    HasAsked knows source after (λ known. HasListed old new present stored older known k b listing) k (length listing.cands) listing.end
