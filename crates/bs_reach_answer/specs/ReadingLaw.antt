-- An answer and its text.
use Rattle.std.specs.Prelude.{◌≡◌, ℕ, ◌+◌, ◌<◌, ◌≤◌, ◌^◌, Bool, List, [], length, All, Ok}
use Rattle.bs_scan.specs.declared.seen.Seen.{Seen}
use Rattle.bs_log.specs.LineForms.{HasText}
use Rattle.bs_log.specs.Steps.{HasNoBlock}
use Rattle.bs_net.specs.Circuit.{Circuit}
use Rattle.bs_report.specs.declared.limits.TheConstants.{MAX_CONFLICTS}
use Rattle.bs_reach_unrolled.specs.declared.limits.TheConstants.{MAX_FRAMES}
use Rattle.bs_reach.specs.declared.reach.Outcome.{Outcome}
use Rattle.bs_reach.specs.declared.reach.Outcome.TheVariants.{Reached, Unreached, Unknown}
use Rattle.bs_reach.specs.declared.reach.Reach.{Reach}
use Rattle.bs_reach.specs.Reach.{IsReach}
use Rattle.bs_reach.specs.Text.{reach_text}
use Rattle.bs_reach_answer.specs.Reading.{answer_in}

-- ---- what an answer has to be, that its text is read back

-- a length that was asked for, with an execution just where the state is reached
abbrev pub HasExecution : (asked : ℕ) → Outcome → (states inputs : List (List Bool)) → Type 0
HasExecution asked (Reached j) states inputs = (j ≤ asked) × (length inputs ≡ j) × (length states ≡ j + 1)
HasExecution asked Unreached states inputs = (states ≡ []) × (inputs ≡ [])
HasExecution asked (Unknown j) states inputs = (j ≤ asked) × (states ≡ []) × (inputs ≡ [])

pub record HasAnswerText (r : Reach) : Type 0 where
  pub most_asked : r.asked ≤ MAX_FRAMES
  pub some_conflicts : 1 ≤ r.conflicts
  pub most_conflicts : r.conflicts ≤ MAX_CONFLICTS
  pub execution : HasExecution r.asked r.outcome r.states r.inputs
  pub each_line : All HasText r.log
  pub no_block : HasNoBlock r.log
  pub few_lines : length r.log < 2 ^ 64

-- An answer that has a text is read back from it,
abbrev pub AnswersReadBack : Type 0
AnswersReadBack = (r : Reach) → HasAnswerText r → answer_in (reach_text r) ≡ Ok r

-- and what is read of a text has that text and no other.
abbrev pub TextsAreAnswers : Type 0
TextsAreAnswers = (text : List ℕ) (r : Reach) → answer_in text ≡ Ok r → HasAnswerText r × (reach_text r ≡ text)

-- ---- right answers

-- a list, where the state is reached
abbrev pub where_reached : {A : Type 0} → Outcome → List A → List A
where_reached (Reached j) xs = xs
where_reached Unreached xs = []
where_reached (Unknown j) xs = []

-- the answer as its text tells it: without states where the state is not reached
abbrev pub written : Reach → Reach
written r = record {
  asked = r.asked;
  conflicts = r.conflicts;
  outcome = r.outcome;
  states = where_reached r.outcome r.states;
  inputs = where_reached r.outcome r.inputs;
  log = r.log;
}

-- what is read of the answer's text is the answer as it is written, and is right
pub record IsReadBack (c : Circuit) (p : Seen) (k b : ℕ) (r : Reach) : Type 0 where
  pub reads : answer_in (reach_text r) ≡ Ok (written r)
  pub right : IsReach c p k b (written r)

-- So is each right answer within the limits.
abbrev pub RightAnswersAreRead : Type 0
RightAnswersAreRead =
    (c : Circuit) (p : Seen) (k b : ℕ) (r : Reach) → IsReach c p k b r → k ≤ MAX_FRAMES → 1 ≤ b → b ≤ MAX_CONFLICTS → length r.log < 2 ^ 64 →
    IsReadBack c p k b r
