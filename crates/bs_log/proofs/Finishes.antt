-- Logs without a block, and their finish lines.
use Rattle.std.proofs.Common.{◌≡◌, ℕ, ◌≤◌, List, [], ◌∷◌, ◌++◌, length, reverse, refl, sym, ap, subst, ◌∙◌}
use Rattle.std.specs.Prelude.{filter_map}
use Rattle.std.proofs.lemmas.List.{reverse-append, append_assoc}
use Rattle.std.proofs.lemmas.List.Elements.{filter_map-append}
use Rattle.bs_clause.specs.Literal.{Clause}
use Rattle.bs_log.specs.declared.line.Line.{Line}
use Rattle.bs_log.specs.declared.line.Line.TheVariants.{Solve, Lemma, Block, Finish, Retire, Delete}
use Rattle.bs_log.specs.History.{Problem, History, step_of}
use Rattle.bs_log.specs.Refusal.{history_of, NoneRefused, IsAccepted}
use Rattle.bs_log.specs.Refutation.{blocks_of}
use Rattle.bs_log.specs.Steps.{block_of_line, HasNoBlock}
use Rattle.bs_log.proofs.Laws.{front_is_right}
use Rattle.bs_log.proofs.Histories.{IsInRange, in_range}

abbrev blocks_in : List Line → List Clause
blocks_in lines = filter_map block_of_line lines

no_cons : {X : Type 0} (x : X) (xs : List X) → x ∷ xs ≡ [] → ⊥
no_cons x xs e = cc

-- a history without a block has none in any step
pub no_blocks : (h : History) (step : ℕ) → HasNoBlock h → blocks_of h step ≡ []
no_blocks [] step e = refl
no_blocks (Solve ∷ h) step e = no_blocks h step e
no_blocks (Lemma id lits hints ∷ h) step e = no_blocks h step e
no_blocks (Block id lits ∷ h) step e = absurd (no_cons lits (blocks_in h) e)
no_blocks (Finish id ∷ h) step e = no_blocks h step e
no_blocks (Retire id ∷ h) step e = no_blocks h step e
no_blocks (Delete ids ∷ h) step e = no_blocks h step e

none_left : {X : Type 0} (xs ys : List X) → xs ++ ys ≡ [] → xs ≡ []
none_left [] ys e = refl
none_left (x ∷ xs) ys e = absurd (no_cons x (xs ++ ys) e)

none_right : {X : Type 0} (xs ys : List X) → xs ++ ys ≡ [] → ys ≡ []
none_right [] ys e = e
none_right (x ∷ xs) ys e = absurd (no_cons x (xs ++ ys) e)

none_both : {X : Type 0} (xs ys : List X) → xs ≡ [] → ys ≡ [] → xs ++ ys ≡ []
none_both [] ys e f = f
none_both (x ∷ xs) ys e f = absurd (no_cons x xs e)

-- nor has its first part
pub no_block_before : (before after : List Line) → HasNoBlock (before ++ after) → HasNoBlock before
no_block_before before after none =
    none_left (blocks_in before) (blocks_in after) (sym (filter_map-append block_of_line before after) ∙ none)

-- nor the lines in the other order
pub no_block_reversed : (log : List Line) → HasNoBlock log → HasNoBlock (reverse log)
no_block_reversed [] e = refl
no_block_reversed (line ∷ log) e =
    let both : blocks_in (line ∷ []) ++ blocks_in log ≡ [] = sym (filter_map-append block_of_line (line ∷ []) log) ∙ e in
    let first : blocks_in (line ∷ []) ≡ [] = none_left (blocks_in (line ∷ [])) (blocks_in log) both in
    let rest : blocks_in log ≡ [] = none_right (blocks_in (line ∷ [])) (blocks_in log) both in
    ap blocks_in (reverse-append (line ∷ []) log) ∙ filter_map-append block_of_line (reverse log) (line ∷ []) ∙
    none_both (blocks_in (reverse log)) (blocks_in (line ∷ [])) (no_block_reversed log rest) first

-- a finish line stands inside a step of the problem
pub finish_is_inside : (p : Problem) (log before after : List Line) (id : ℕ) → IsAccepted p log → log ≡ before ++ Finish id ∷ after →
    step_of (history_of before) ≤ length p.steps
finish_is_inside p log before after id ok e =
    let parts : log ≡ (before ++ Finish id ∷ []) ++ after = e ∙ sym (append_assoc before (Finish id ∷ []) after) in
    let right : NoneRefused p (history_of (before ++ Finish id ∷ [])) = front_is_right p log (before ++ Finish id ∷ []) after ok parts in
    let here : NoneRefused p (Finish id ∷ history_of before) = subst (NoneRefused p) (reverse-append before (Finish id ∷ [])) right in
    let range : IsInRange p (Finish id ∷ history_of before) = in_range p (Finish id ∷ history_of before) here in
    range.inside refl
