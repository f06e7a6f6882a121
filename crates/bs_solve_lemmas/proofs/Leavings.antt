-- What each step of a log has left, after further lines.
use Rattle.std.proofs.Common.{◌≡◌, ℕ, Bool, true, false, List, [], ◌∷◌, ◌++◌, refl, sym, ap, subst, ◌∙◌}
use Rattle.std.specs.List.{AllByRecursion, filter, list_any}
use Rattle.std.proofs.lemmas.Bool.{false≢true}
use Rattle.bs_clause.specs.Literal.{Clause}
use Rattle.bs_log.specs.declared.line.Line.{Line}
use Rattle.bs_log.specs.declared.line.Line.TheVariants.{Solve, Lemma, Block, Finish, Retire, Delete}
use Rattle.bs_log.specs.History.{Problem, History, live, step_of}
use Rattle.bs_log.specs.Refusal.{is_lemma}
use Rattle.bs_log.specs.Kept.{kept_lemmas}
use Rattle.bs_log.specs.Lean.{LeavesKept, StepsLeaveKept, is_block}
use Rattle.bs_log.specs.Steps.{is_lemma_line}
use Rattle.bs_log.proofs.Histories.{same_live, with_step}
use Rattle.bs_solve_lemmas.specs.ProofLog.{ProofLog}
use Rattle.bs_solve_lemmas.specs.Ending.{SomeLemmas}
use Rattle.bs_solve_lemmas.specs.Stages.{begun_proof}

left_with_step : (p : Problem) (member : Clause) (step : ℕ) (retired after : History) → LeavesKept p step retired after →
    LeavesKept (with_step p member) step retired after
left_with_step p member step retired after l = record {
  lemmas = ap (filter is_lemma) (same_live p member after) ∙ l.lemmas ∙ ap (kept_lemmas p step) (sym (same_live p member retired));
  blocks = ap (list_any is_block) (same_live p member after) ∙ l.blocks;
}

-- one more step to come
leaves_with_step : (p : Problem) (member : Clause) (h : History) → StepsLeaveKept p h → StepsLeaveKept (with_step p member) h
leaves_with_step p member [] l = tt
leaves_with_step p member (Solve ∷ h) l = leaves_with_step p member h l
leaves_with_step p member (Lemma id lits hints ∷ h) l = leaves_with_step p member h l
leaves_with_step p member (Block id lits ∷ h) l = leaves_with_step p member h l
leaves_with_step p member (Finish id ∷ h) l = leaves_with_step p member h l
leaves_with_step p member (Retire id ∷ h) l =
    (left_with_step p member (step_of h) (Retire id ∷ h) (Retire id ∷ h) l.0, leaves_with_step p member h l.1)
leaves_with_step p member (Delete ids ∷ []) l = tt
leaves_with_step p member (Delete ids ∷ Solve ∷ h) l = leaves_with_step p member h l
leaves_with_step p member (Delete ids ∷ Lemma id lits hints ∷ h) l = leaves_with_step p member h l
leaves_with_step p member (Delete ids ∷ Block id lits ∷ h) l = leaves_with_step p member h l
leaves_with_step p member (Delete ids ∷ Finish id ∷ h) l = leaves_with_step p member h l
leaves_with_step p member (Delete ids ∷ Retire id ∷ h) l =
    (left_with_step p member (step_of h) (Retire id ∷ h) (Delete ids ∷ Retire id ∷ h) l.0, leaves_with_step p member h l.1)
leaves_with_step p member (Delete ids ∷ Delete more ∷ h) l = leaves_with_step p member (Delete more ∷ h) l

pub leaves_begun : (first : Bool) (b : ProofLog) (a : Clause) → StepsLeaveKept b.problem b.history →
    StepsLeaveKept (begun_proof first b a).problem (begun_proof first b a).history
leaves_begun true b a l = leaves_with_step b.problem a b.history l
leaves_begun false b a l = l

leaves_lemmas : (p : Problem) (lines : List Line) (h : History) → AllByRecursion (λ line. is_lemma_line line ≡ true) lines → StepsLeaveKept p h →
    StepsLeaveKept p (lines ++ h)
leaves_lemmas p [] h all l = l
leaves_lemmas p (Lemma id lits hints ∷ lines) h all l = leaves_lemmas p lines h all.1 l
leaves_lemmas p (Solve ∷ lines) h all l = absurd (false≢true all.0)
leaves_lemmas p (Block id lits ∷ lines) h all l = absurd (false≢true all.0)
leaves_lemmas p (Finish id ∷ lines) h all l = absurd (false≢true all.0)
leaves_lemmas p (Retire id ∷ lines) h all l = absurd (false≢true all.0)
leaves_lemmas p (Delete ids ∷ lines) h all l = absurd (false≢true all.0)

pub leaves_after : (begun new : ProofLog) → SomeLemmas begun new → StepsLeaveKept begun.problem begun.history → StepsLeaveKept new.problem new.history
leaves_after begun new l leaves =
    subst (λ p. StepsLeaveKept p new.history) (sym l.problem)
    (subst (StepsLeaveKept begun.problem) (sym l.history) (leaves_lemmas begun.problem l.lines begun.history l.lemmas leaves))
