-- A renamed log is right.
use Rattle.std.proofs.Common.{◌≡◌, ℕ, ◌+◌, ◌<◌, ◌≤◌, arith, List, [], ◌∷◌, ◌++◌, map, reverse, refl, sym, ap, subst, ◌∙◌, inl, inr}
use Rattle.std.specs.Prelude.{filter_map}
use Rattle.std.specs.List.{AllByRecursion}
use Rattle.std.proofs.lemmas.List.{length-map, reverse-append, map_push}
use Rattle.std.proofs.lemmas.List.Elements.{All-from_recursion, recursion_from_All}
use Rattle.bs_clause.specs.declared.literal.TheConstants.{VARIABLE_LIMIT}
use Rattle.bs_clause.specs.Literal.{Clause, IsVariable}
use Rattle.bs_log.specs.declared.line.Line.{Line}
use Rattle.bs_log.specs.declared.line.Line.TheVariants.{Solve, Lemma, Block, Finish, Retire, Delete}
use Rattle.bs_log.specs.History.{History, step_of, state_of}
use Rattle.bs_log.specs.Lean.{IsLean}
use Rattle.bs_log.specs.LineForms.{IsId, HasVariable, HasText}
use Rattle.bs_log.specs.Refusal.{NoneRefused, is_complete}
use Rattle.bs_log.specs.Steps.{block_of_line, HasNoBlock, finished_in}
use Rattle.bs_reach.specs.declared.offsets.Shift.{Shift}
use Rattle.bs_reach.specs.Renamed.{new_id, new_variable, new_literal, new_clause, new_line, IdFits, LiteralFits, HasRoom}
use Rattle.bs_reach.specs.Widened.{LogsStayRight}
use Rattle.bs_reach.proofs.ShiftLemmas.{new_at_most, variable_place, VariablePlace}
use Rattle.bs_reach.proofs.EntryLemmas.{new_lines, same_step}
use Rattle.bs_reach.proofs.AxiomLemmas.{shift_is}
use Rattle.bs_reach.proofs.RefusalLemmas.{none_refused, still_complete}
use Rattle.bs_reach.proofs.StepLemmas.{steps_still_leave}
use Rattle.bs_reach.proofs.LeanLemmas.{lemmas_stay_lean}

-- the lines in the other order go as they are
pub reversed_lines : (s : Shift) (log : List Line) → reverse (new_lines s log) ≡ new_lines s (reverse log)
reversed_lines s [] = refl
reversed_lines s (line ∷ log) =
    reverse-append (new_line s line ∷ []) (new_lines s log)
    ∙ (ap (λ (ls : List Line). ls ++ new_line s line ∷ []) (reversed_lines s log)
    ∙ (sym (map_push (new_line s) (reverse log) line) ∙ ap (new_lines s) (sym (reverse-append (line ∷ []) log))))

-- ---- finish lines and blocks

pub same_finished : (s : Shift) (h : History) → finished_in (new_lines s h) ≡ finished_in h
same_finished s [] = refl
same_finished s (Solve ∷ h) = same_finished s h
same_finished s (Lemma id lits hints ∷ h) = same_finished s h
same_finished s (Block id lits ∷ h) = same_finished s h
same_finished s (Finish id ∷ h) =
    ap (λ (ns : List ℕ). ns ++ step_of (new_lines s h) ∷ []) (same_finished s h) ∙ ap (λ n. finished_in h ++ n ∷ []) (same_step s h)
same_finished s (Retire id ∷ h) = same_finished s h
same_finished s (Delete ids ∷ h) = same_finished s h

no_cons : {X : Type 0} (x : X) (xs : List X) → x ∷ xs ≡ [] → ⊥
no_cons x xs e = cc

still_no_block : (s : Shift) (lines : List Line) → HasNoBlock lines → HasNoBlock (new_lines s lines)
still_no_block s [] none = refl
still_no_block s (Solve ∷ lines) none = still_no_block s lines none
still_no_block s (Lemma id lits hints ∷ lines) none = still_no_block s lines none
still_no_block s (Block id lits ∷ lines) none = absurd (no_cons lits (filter_map block_of_line lines) none)
still_no_block s (Finish id ∷ lines) none = still_no_block s lines none
still_no_block s (Retire id ∷ lines) none = still_no_block s lines none
still_no_block s (Delete ids ∷ lines) none = still_no_block s lines none

-- ---- texts

module _ (s : Shift) (goes : s.front_by ≤ s.listed_by) where
  still_id : (id : ℕ) → IsId id → IdFits s id → IsId (new_id s id)
  still_id id is fits = let most = new_at_most s id goes in (omega (arith, is.0, most.0), omega (arith, fits, most.1))

  still_ids : (ids : List ℕ) → AllByRecursion IsId ids → AllByRecursion (IdFits s) ids → AllByRecursion IsId (map (new_id s) ids)
  still_ids [] is fits = tt
  still_ids (id ∷ ids) is fits = (still_id id is.0 fits.0, still_ids ids is.1 fits.1)

  still_variable_at : (v new : ℕ) → VariablePlace s v new → IsVariable v → v + s.vars_by < VARIABLE_LIMIT → IsVariable new
  still_variable_at v new (inl a) is fits = (omega (arith, a.1, is.0), omega (arith, a.1, is.1))
  still_variable_at v new (inr a) is fits = (omega (arith, a.1, is.0), omega (arith, a.1, fits))

  still_variables : (c : Clause) → AllByRecursion HasVariable c → AllByRecursion (LiteralFits s) c → AllByRecursion HasVariable (new_clause s c)
  still_variables [] is fits = tt
  still_variables (l ∷ c) is fits =
      (still_variable_at l.variable (new_variable s l.variable) (variable_place s l.variable) is.0 fits.0, still_variables c is.1 fits.1)

  still_text : (line : Line) → HasText line → HasRoom s line → HasText (new_line s line)
  still_text Solve text room = tt
  still_text (Lemma id lits hints) text room =
      let long = length-map hints (new_id s) in
      let some = text.3 in (
        still_id id text.0 room.0,
        still_variables lits text.1 (recursion_from_All (LiteralFits s) lits room.1),
        still_ids hints text.2 (recursion_from_All (IdFits s) hints room.2),
        omega (arith, long, some),
      )
  still_text (Block id lits) text room =
      let long = length-map lits (new_literal s) in
      let some = text.2 in
      (still_id id text.0 room.0, still_variables lits text.1 (recursion_from_All (LiteralFits s) lits room.1), omega (arith, long, some))
  still_text (Finish id) text room = still_id id text room
  still_text (Retire id) text room = still_id id text room
  still_text (Delete ids) text room =
      let long = length-map ids (new_id s) in
      let some = text.1 in
      (still_ids ids text.0 (recursion_from_All (IdFits s) ids room), omega (arith, long, some))

  still_texts : (lines : List Line) → AllByRecursion HasText lines → AllByRecursion (HasRoom s) lines → AllByRecursion HasText (new_lines s lines)
  still_texts [] text room = tt
  still_texts (line ∷ lines) text room = (still_text line text.0 room.0, still_texts lines text.1 room.1)

pub logs_stay_right : LogsStayRight
logs_stay_right s p q log w ok lean texts room =
    let h : History = reverse log in
    let back : reverse (new_lines s log) ≡ new_lines s h = reversed_lines s log in
    record {
      accepted = record {
        lines = subst (NoneRefused q) (sym back) (none_refused s p q w h ok.lines);
        complete = ap (λ (x : History). is_complete q (state_of q x)) back ∙ (still_complete s p q w h ∙ ok.complete);
      };
      lean = subst (IsLean q) (sym back)
          (record { steps = steps_still_leave s p q w h lean.steps; lemmas = lemmas_stay_lean s p q w h ok.lines lean.lemmas });
      texts = All-from_recursion HasText (new_lines s log)
          (still_texts s (shift_is s p q w).goes log (recursion_from_All HasText log texts) (recursion_from_All (HasRoom s) log room));
      no_block = still_no_block s log;
      finished = ap finished_in back ∙ same_finished s h;
    }
