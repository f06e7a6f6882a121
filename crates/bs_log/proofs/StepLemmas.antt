-- A log in which no line is refused is accepted; and where a step's lines have its finish line.
use Rattle.std.proofs.Common.{◌≡◌, ◌≢◌, ℕ, suc, zero, ◌+◌, Bool, true, false, cond, List, [], ◌∷◌, ◌++◌, get_or, refl, ap, sym, ◌∙◌, ◌⊎◌, inl, inr}
use Rattle.std.proofs.Common.{⊎_elim, Option, Some, None, arith}
use Rattle.std.specs.Prelude.{option_map, filter_map, ◌==◌}
use Rattle.std.specs.Option.{option_or}
use Rattle.std.specs.List.{AllByRecursion as Each, cons_option}
use Rattle.std.proofs.lemmas.Bool.{eqb-true}
use mathlib.Core.List.{reverse_aux}
use Rattle.bs_clause.specs.Literal.{Clause}
use Rattle.bs_log.specs.declared.line.Line.{Line}
use Rattle.bs_log.specs.declared.line.Line.TheVariants.{Solve, Lemma, Block, Finish, Retire, Delete}
use Rattle.bs_log.specs.declared.why.Why.{Why}
use Rattle.bs_log.specs.declared.why.Why.TheVariants.{Order}
use Rattle.bs_log.specs.History.{Problem, History, step_of, state_of}
use Rattle.bs_log.specs.Refusal.{refusal, NoneRefused, IsAccepted, is_complete}
use Rattle.bs_log.specs.FirstRefused.{refused_from, first_refused}
use Rattle.bs_log.specs.Refutation.{blocks_of}
use Rattle.bs_log.specs.Steps.{onto_step, steps_of, block_of_line, finish_of_line}

record Right (p : Problem) (h : History) : Type 0 where
  lines : NoneRefused p h
  complete : is_complete p (state_of p h) ≡ true

right_from : (p : Problem) (earlier : History) (n : ℕ) (rest : List Line) → refused_from p earlier n rest ≡ None → NoneRefused p earlier →
    Right p (reverse_aux rest earlier)
right_from p earlier n [] e none = by (is_complete p (state_of p earlier)) refl e
  where
    by : (b : Bool) → is_complete p (state_of p earlier) ≡ b → cond {A = Option (ℕ × Why)} b None (Some (n, Order)) ≡ None → Right p earlier
    by true c e = record { lines = none; complete = c }
    by false c e = cc
right_from p earlier n (line ∷ rest) e none = by (refusal p (state_of p earlier) line) refl e (λ h no. right_from p (line ∷ earlier) (n + 1) rest h (no, none))
  where
    by : (o : Option Why) → refusal p (state_of p earlier) line ≡ o →
        option_or (option_map (λ why. (n, why)) o) (refused_from p (line ∷ earlier) (n + 1) rest) ≡ None →
        (refused_from p (line ∷ earlier) (n + 1) rest ≡ None → refusal p (state_of p earlier) line ≡ None →
        Right p (reverse_aux rest (line ∷ earlier))) → Right p (reverse_aux rest (line ∷ earlier))
    by None r e go = go e r
    by (Some why) r e go = cc

pub accepted : (p : Problem) (log : List Line) → first_refused p log ≡ None → IsAccepted p log
accepted p log e = let h = right_from p [] 1 log e tt in record { lines = h.lines; complete = h.complete }

-- ---- the finish line of a step

pub record FinishAt (rest : List Line) (earlier : History) (n id : ℕ) (P : Clause → Type 0) : Type 0 where
  pub before : List Line
  pub after : List Line
  pub parts : rest ≡ before ++ Finish id ∷ after
  pub step : step_of (reverse_aux before earlier) ≡ n
  pub blocks : Each P (blocks_of (reverse_aux before earlier) n)

finish_tail : (l : Line) (ss : List (List Line)) (k id : ℕ) → finish_of_line l ≡ None →
    filter_map finish_of_line (get_or (onto_step l ss) k []) ≡ id ∷ [] → filter_map finish_of_line (get_or ss k []) ≡ id ∷ []
finish_tail l [] k id lacks e = cc
finish_tail l (s ∷ ss) zero id lacks e = sym (ap (λ (o : Option ℕ). cons_option o (filter_map finish_of_line s)) lacks) ∙ e
finish_tail l (s ∷ ss) (suc k) id lacks e = e

each_cons : (P : Clause → Type 0) (o : Option Clause) (cs : List Clause) → Each P (cons_option o cs) → Each P cs
each_cons P None cs h = h
each_cons P (Some c) cs h = h.1

blocks_tail : (P : Clause → Type 0) (l : Line) (ss : List (List Line)) (k : ℕ) → Each P (filter_map block_of_line (get_or (onto_step l ss) k [])) →
    Each P (filter_map block_of_line (get_or ss k []))
blocks_tail P l [] k h = tt
blocks_tail P l (s ∷ ss) zero h = each_cons P (block_of_line l) (filter_map block_of_line s) h
blocks_tail P l (s ∷ ss) (suc k) h = h

-- the block of a line stands among the step's blocks
block_here : (P : Clause → Type 0) (bid : ℕ) (lits : Clause) (ss : List (List Line)) (k id : ℕ) → k ≡ 0 →
    filter_map finish_of_line (get_or (onto_step (Block bid lits) ss) k []) ≡ id ∷ [] →
    Each P (filter_map block_of_line (get_or (onto_step (Block bid lits) ss) k [])) → P lits
block_here P bid lits [] k id z e h = cc
block_here P bid lits (s ∷ ss) zero id z e h = h.0
block_here P bid lits (s ∷ ss) (suc k) id z e h = absurd (omega arith)

longer : (P : Clause → Type 0) (l : Line) (rest : List Line) (earlier : History) (n id : ℕ) → FinishAt rest (l ∷ earlier) n id P →
    FinishAt (l ∷ rest) earlier n id P
longer P l rest earlier n id f =
    record { before = l ∷ f.before; after = f.after; parts = ap (λ (ls : List Line). l ∷ ls) f.parts; step = f.step; blocks = f.blocks }

finish_here : (fid id : ℕ) (ss : List (List Line)) (k : ℕ) → filter_map finish_of_line (get_or (onto_step (Finish fid) ss) k []) ≡ id ∷ [] →
    ((k ≡ 0) × (fid ≡ id)) ⊎ (filter_map finish_of_line (get_or ss k []) ≡ id ∷ [])
finish_here fid id [] k e = cc
finish_here fid id (s ∷ ss) zero e = let same : fid ≡ id = cc in inl (refl, same)
finish_here fid id (s ∷ ss) (suc k) e = inr e

at_front : (P : Clause → Type 0) (fid id : ℕ) (rest : List Line) (earlier : History) (n : ℕ) → fid ≡ id → step_of earlier ≡ n →
    Each P (blocks_of earlier n) → FinishAt (Finish fid ∷ rest) earlier n id P
at_front P fid id rest earlier n same step h = record { before = []; after = rest; parts = ap (λ (x : ℕ). Finish x ∷ rest) same; step = step; blocks = h }

pub finish_at : (P : Clause → Type 0) (id : ℕ) (rest : List Line) (earlier : History) (k n : ℕ) → n ≡ step_of earlier + k →
    filter_map finish_of_line (get_or (steps_of rest) k []) ≡ id ∷ [] → Each P (filter_map block_of_line (get_or (steps_of rest) k [])) →
    Each P (blocks_of earlier n) → FinishAt rest earlier n id P
finish_at P id [] earlier k n e f b h = cc
finish_at P id (Solve ∷ rest) earlier k n e f b h =
    longer P Solve rest earlier n id
    (finish_at P id rest (Solve ∷ earlier) k n e (finish_tail Solve (steps_of rest) k id refl f) (blocks_tail P Solve (steps_of rest) k b) h)
finish_at P id (Lemma lid lits hints ∷ rest) earlier k n e f b h =
    longer P (Lemma lid lits hints) rest earlier n id
    (finish_at P id rest (Lemma lid lits hints ∷ earlier) k n e (finish_tail (Lemma lid lits hints) (steps_of rest) k id refl f)
    (blocks_tail P (Lemma lid lits hints) (steps_of rest) k b) h)
finish_at P id (Delete ids ∷ rest) earlier k n e f b h = longer P (Delete ids) rest earlier n id (finish_at P id rest (Delete ids ∷ earlier) k n e f b h)
finish_at P id (Block bid lits ∷ rest) earlier k n e f b h =
    longer P (Block bid lits) rest earlier n id
    (finish_at P id rest (Block bid lits ∷ earlier) k n e (finish_tail (Block bid lits) (steps_of rest) k id refl f)
    (blocks_tail P (Block bid lits) (steps_of rest) k b)
    (by (step_of earlier == n) refl))
  where
    by : (t : Bool) → (step_of earlier == n) ≡ t → Each P (cond t (lits ∷ blocks_of earlier n) (blocks_of earlier n))
    by true t = let same : step_of earlier ≡ n = eqb-true (step_of earlier) n t in (block_here P bid lits (steps_of rest) k id (omega arith) f b, h)
    by false t = h
finish_at P id (Finish fid ∷ rest) earlier k n e f b h =
    ⊎_elim
    (λ (here : (k ≡ 0) × (fid ≡ id)).
    let first : k ≡ 0 = here.0 in
    let step : step_of earlier ≡ n = omega (arith, e, first) in
    at_front P fid id rest earlier n here.1 step h)
    (λ (f : filter_map finish_of_line (get_or (steps_of rest) k []) ≡ id ∷ []).
    longer P (Finish fid) rest earlier n id (finish_at P id rest (Finish fid ∷ earlier) k n e f (blocks_tail P (Finish fid) (steps_of rest) k b) h))
    (finish_here fid id (steps_of rest) k f)
finish_at P id (Retire rid ∷ rest) earlier zero n e f b h = cc
finish_at P id (Retire rid ∷ rest) earlier (suc k) n e f b h =
    longer P (Retire rid) rest earlier n id (finish_at P id rest (Retire rid ∷ earlier) k n (omega arith) f b h)

-- ---- a log that grows by whole steps

-- each line but a delete line stands before a retire line
abbrev pub IsWhole : List Line → Type 0
IsWhole [] = Unit {0}
IsWhole (Retire id ∷ rest) = IsWhole rest
IsWhole (Delete ids ∷ rest) = IsWhole rest
IsWhole (line ∷ rest) = (steps_of rest ≢ []) × IsWhole rest

onto_append : (l : Line) (ss ts : List (List Line)) → ss ≢ [] → onto_step l (ss ++ ts) ≡ onto_step l ss ++ ts
onto_append l [] ts some = absurd (some refl)
onto_append l (s ∷ ss) ts some = refl

pub steps_of_append : (log more : List Line) → IsWhole log → steps_of (log ++ more) ≡ steps_of log ++ steps_of more
steps_of_append [] more h = refl
steps_of_append (Retire id ∷ rest) more h = ap (λ (ss : List (List Line)). [] ∷ ss) (steps_of_append rest more h)
steps_of_append (Delete ids ∷ rest) more h = steps_of_append rest more h
steps_of_append (Solve ∷ rest) more h = ap (onto_step Solve) (steps_of_append rest more h.1) ∙ onto_append Solve (steps_of rest) (steps_of more) h.0
steps_of_append (Lemma id lits hints ∷ rest) more h =
    ap (onto_step (Lemma id lits hints)) (steps_of_append rest more h.1) ∙ onto_append (Lemma id lits hints) (steps_of rest) (steps_of more) h.0
steps_of_append (Block id lits ∷ rest) more h =
    ap (onto_step (Block id lits)) (steps_of_append rest more h.1) ∙ onto_append (Block id lits) (steps_of rest) (steps_of more) h.0
steps_of_append (Finish id ∷ rest) more h =
    ap (onto_step (Finish id)) (steps_of_append rest more h.1) ∙ onto_append (Finish id) (steps_of rest) (steps_of more) h.0
