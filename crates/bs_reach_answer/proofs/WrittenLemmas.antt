-- A right answer is read as it was written.
use Rattle.std.proofs.Common.{◌≡◌, ℕ, ◌+◌, Bool, List, ◌++◌, length, refl, ap, sym, subst, ◌∙◌, arith}
use Rattle.std.proofs.lemmas.List.FromFn.{length-map-range_with_len}
use Rattle.bs_scan.specs.declared.seen.Seen.{Seen}
use Rattle.bs_net.specs.Circuit.{Circuit}
use Rattle.bs_scan.specs.Moments.{state_at}
use Rattle.bs_reach.specs.declared.reach.Outcome.{Outcome}
use Rattle.bs_reach.specs.declared.reach.Outcome.TheVariants.{Reached, Unreached, Unknown}
use Rattle.bs_reach.specs.declared.reach.Reach.{Reach}
use Rattle.bs_reach.specs.Reach.{IsOutcome}
use Rattle.bs_reach.specs.Text.{execution_text, head_text, log_text, reach_text}
use Rattle.bs_reach_answer.specs.Reading.{answer_in}
use Rattle.bs_reach_answer.specs.ReadingLaw.{HasExecution, HasAnswerText, where_reached, written, RightAnswersAreRead}
use Rattle.bs_reach_answer.proofs.ReadBackLemmas.{read_back}

-- with such states and inputs as an outcome has
abbrev shown_at : Outcome → Reach → Reach
shown_at o r = record r { states = where_reached o r.states; inputs = where_reached o r.inputs }

same_execution : (o : Outcome) (r : Reach) → execution_text o (shown_at o r) ≡ execution_text o r
same_execution (Reached j) r = refl
same_execution Unreached r = refl
same_execution (Unknown j) r = refl

same_text : (r : Reach) → reach_text (written r) ≡ reach_text r
unfolding head_text log_text
same_text r = ap (λ (t : List ℕ). head_text r ++ (t ++ log_text r)) (same_execution r.outcome r)

right_outcome : (c : Circuit) (p : Seen) (k b : ℕ) (r : Reach) (o : Outcome) → IsOutcome c p k b r o → IsOutcome c p k b (shown_at o r) o
right_outcome c p k b r (Reached j) h = h
right_outcome c p k b r Unreached h = h
right_outcome c p k b r (Unknown j) h = h

execution_of : (c : Circuit) (p : Seen) (k b : ℕ) (r : Reach) (o : Outcome) → IsOutcome c p k b r o →
    HasExecution k o (where_reached o r.states) (where_reached o r.inputs)
execution_of c p k b r (Reached j) h =
    let e = h.1 in (
      h.0,
      e.count,
      ap length e.states_are ∙ length-map-range_with_len (state_at c r.inputs) 0 (j + 1),
    )
execution_of c p k b r Unreached h = (refl, refl)
execution_of c p k b r (Unknown j) h = (h.0, refl, refl)

pub right_answers : RightAnswersAreRead
right_answers c p k b r right most low high few =
    let asked : k ≡ r.asked = sym right.asked_is in
    let conflicts : b ≡ r.conflicts = sym right.conflicts_is in
    let h : HasAnswerText (written r) =
    record {
      most_asked = omega (arith, asked, most);
      some_conflicts = omega (arith, conflicts, low);
      most_conflicts = omega (arith, conflicts, high);
      execution =
          subst (λ (n : ℕ). HasExecution n r.outcome (where_reached r.outcome r.states) (where_reached r.outcome r.inputs)) asked
          (execution_of c p k b r r.outcome right.outcome_is);
      each_line = right.texts;
      no_block = right.no_block;
      few_lines = few;
    } in
    record {
      reads = ap answer_in (sym (same_text r)) ∙ read_back (written r) h;
      right =
          record {
            asked_is = right.asked_is;
            conflicts_is = right.conflicts_is;
            outcome_is = right_outcome c p k b r r.outcome right.outcome_is;
            accepted = right.accepted;
            lean = right.lean;
            texts = right.texts;
            no_block = right.no_block;
            finished = right.finished;
            few = right.few;
          };
    }
