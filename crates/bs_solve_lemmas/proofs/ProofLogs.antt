-- A proof log with one more line.
use Rattle.std.proofs.Common.{◌≡◌, ℕ, ◌+◌, ◌-◌, ◌<◌, ◌^◌, arith, true, false, not, List, [], ◌∷◌, ◌++◌, map, reverse, length, refl, sym, ap, subst, ◌∙◌}
use Rattle.std.proofs.Common.{Some, None, eqb}
use Rattle.std.specs.Prelude.{All, is_some}
use Rattle.std.specs.List.{AllByRecursion, filter, list_any}
use Rattle.std.proofs.lemmas.Bool.{eq-eqb, and_from, and_parts, false≢true}
use Rattle.std.proofs.lemmas.List.{append-nil, length-reverse, reverse-reverse, get_or-reverse}
use Rattle.std.proofs.lemmas.List.Elements.{All-from_recursion, recursion_from_All}
use Rattle.bs_clause.specs.Literal.{Clause, negation}
use Rattle.bs_log.specs.declared.line.Line.{Line}
use Rattle.bs_log.specs.declared.line.Line.TheVariants.{Solve, Lemma, Block, Finish, Retire, Delete}
use Rattle.bs_log.specs.declared.origin.Origin.TheVariants.{Learnt, Blocked, Retired}
use Rattle.bs_log.specs.History.{Problem, History, Entry, State, state_of, live, last_id, phase_of, step_of, activation_of}
use Rattle.bs_log.specs.Refusal.{is_lemma, is_lemma_or_block, entry_of, passes, clauses_of, refusal, denies, assumptions_of, names_stand, is_ascending}
use Rattle.bs_log.specs.Refusal.{in_order, in_solve, is_between_steps, is_after_retire, has_distinct_variables, is_block_of}
use Rattle.bs_log.specs.Propagation.{last_is_false}
use Rattle.bs_log.specs.Lean.{IsNew}
use Rattle.bs_log.specs.LineForms.{IsId, HasVariable, HasText}
use Rattle.bs_log.proofs.Tests.{IsRight, none_from_right, right_from_none}
use Rattle.bs_log.proofs.Histories.{live-push}
use Rattle.bs_solve_lemmas.proofs.Deletions.{live_after}
use Rattle.bs_solve_lemmas.specs.Ids.{Rises, is_among}
use Rattle.bs_solve_lemmas.specs.Walk.{IsLoggedLearnt}
use Rattle.bs_solve_lemmas.specs.ProofLog.{ProofLog, lemma_ids, next_id, IsKept, IsRecorded, with_line, with_lemma, without}
use Rattle.bs_watch.proofs.Gets.{none_is_not_some}
use Rattle.bs_solve_lemmas.proofs.Clauses.{all_list}
use Rattle.bs_solve_lemmas.specs.Rows.{AreInOrder}
use Rattle.bs_solve_lemmas.proofs.Entries.{live_in_order, ascending_rises, hints_are_ids, deleted_are_ids, finished_is_id, ids_with, ids_without}

-- ---- texts

reverse_all : {X : Type 0} (P : X → Type 0) (rs : List X) → All P rs → All P (reverse rs)
reverse_all P rs all = λ k d h.
    let within : k < length rs = omega (arith, h, length-reverse rs) in
    subst P (sym (get_or-reverse rs k d within)) (all (length rs - 1 - k) d (omega (arith, within)))

-- a log has texts where its history has
pub texts_in_order : (log : List Line) → AllByRecursion HasText (reverse log) → All HasText log
texts_in_order log t = subst (All HasText) (reverse-reverse log) (reverse_all HasText (reverse log) (All-from_recursion HasText (reverse log) t))

-- the last hint is false, so there is one
some_hints : (lemma : Clause) (entries : List Entry) (hints : List ℕ) → last_is_false lemma (clauses_of entries hints) ≡ true → 0 < length hints
some_hints lemma entries [] last = absurd (false≢true last)
some_hints lemma entries (h ∷ hints) last = omega arith

-- a block has the negated activation literal
some_literals : (p : Problem) (step : ℕ) (lits : Clause) → is_block_of p step lits ≡ true → 0 < length lits
some_literals p step [] fits = absurd (false≢true fits)
some_literals p step (l ∷ lits) fits = omega arith

-- ---- a line that adds no clause

pub recorded_solve : (last : ℕ) (ids : List ℕ) (b : ProofLog) → IsRecorded last ids b → in_order b.problem (state_of b.problem b.history) Solve ≡ true →
    IsRecorded last ids (with_line b Solve)
recorded_solve last ids b r order = record {
  kept = record {
    right = (
      none_from_right b.problem (state_of b.problem b.history) Solve
          (record { order = order; names = refl; distinct = refl; block = refl; unit = refl; last = refl; finish = refl }),
      r.kept.right,
    );
    lean = r.kept.lean;
    texts = (tt, r.kept.texts);
  };
  last_is = r.last_is;
  lemmas = r.lemmas;
}

pub recorded_finish : (last id : ℕ) (ids : List ℕ) (b : ProofLog) → IsRecorded last ids b → last < 2 ^ 64 → in_solve (phase_of b.history) ≡ true →
    passes is_lemma (entry_of (live b.problem b.history) id) ≡ true →
    passes (λ e. denies (assumptions_of b.problem (step_of b.history)) e.literals) (entry_of (live b.problem b.history) id) ≡ true →
    IsRecorded last ids (with_line b (Finish id))
recorded_finish last id ids b r high order names fits = record {
  kept = record {
    right = (
      none_from_right b.problem (state_of b.problem b.history) (Finish id)
          (record { order = order; names = names; distinct = refl; block = refl; unit = refl; last = refl; finish = fits }),
      r.kept.right,
    );
    lean = r.kept.lean;
    texts = (finished_is_id b.problem b.history id r.kept.right (subst (λ n. n < 2 ^ 64) r.last_is high) names, r.kept.texts);
  };
  last_is = r.last_is;
  lemmas = r.lemmas;
}

-- ---- a line that adds a clause

pub block_stands : (b : ProofLog) (id : ℕ) (lits : Clause) → IsKept b → id ≡ last_id b.problem b.history + 1 →
    live b.problem (Block id lits ∷ b.history) ≡ live b.problem b.history ++ record { id = id; origin = Blocked; literals = lits } ∷ []
block_stands b id lits k next = live-push b.problem b.history (record { id = id; origin = Blocked; literals = lits }) k.right next

pub recorded_block : (last id : ℕ) (ids : List ℕ) (b : ProofLog) (lits : Clause) → IsRecorded last ids b → id ≡ last + 1 → id < 2 ^ 64 →
    in_solve (phase_of b.history) ≡ true → has_distinct_variables lits ≡ true → All HasVariable lits →
    is_block_of b.problem (step_of b.history) lits ≡ true → IsRecorded id ids (with_line b (Block id lits))
recorded_block last id ids b lits r is high phase distinct range fits =
    let next : id ≡ last_id b.problem b.history + 1 = is ∙ ap (λ n. n + 1) r.last_is in
    let e : Entry = record { id = id; origin = Blocked; literals = lits } in
    record {
      kept = record {
        right = (
          none_from_right b.problem (state_of b.problem b.history) (Block id lits) (record {
            order = and_from (in_solve (phase_of b.history)) (eqb id (last_id b.problem b.history + 1)) phase
                (eq-eqb id (last_id b.problem b.history + 1) next);
            names = refl;
            distinct = distinct;
            block = fits;
            unit = refl;
            last = refl;
            finish = refl;
          }),
          r.kept.right,
        );
        lean = r.kept.lean;
        texts = (
          ((omega (arith, is), high), recursion_from_All HasVariable lits range, some_literals b.problem (step_of b.history) lits fits),
          r.kept.texts,
        );
      };
      last_is = refl;
      lemmas = r.lemmas ∙ sym (ap (λ es. map (λ (x : Entry). x.id) (filter is_lemma es)) (block_stands b id lits r.kept next) ∙
          ids_with (live b.problem b.history) e ∙ append-nil (lemma_ids b));
    }

pub retired_stands : (b : ProofLog) (id : ℕ) → IsKept b → id ≡ last_id b.problem b.history + 1 →
    live b.problem (Retire id ∷ b.history) ≡
    live b.problem b.history ++ record { id = id; origin = Retired; literals = negation (activation_of b.problem (step_of b.history)) ∷ [] } ∷ []
retired_stands b id k next =
    live-push b.problem b.history (record { id = id; origin = Retired; literals = negation (activation_of b.problem (step_of b.history)) ∷ [] }) k.right next

-- the line that ends a step is right
retire_is_right : (b : ProofLog) (id : ℕ) → id ≡ last_id b.problem b.history + 1 → is_between_steps (phase_of b.history) ≡ false →
    refusal b.problem (state_of b.problem b.history) (Retire id) ≡ None
retire_is_right b id next phase = none_from_right b.problem (state_of b.problem b.history) (Retire id) (record {
  order = and_from (not (is_between_steps (phase_of b.history))) (eqb id (last_id b.problem b.history + 1)) (ap not phase)
      (eq-eqb id (last_id b.problem b.history + 1) next);
  names = refl;
  distinct = refl;
  block = refl;
  unit = refl;
  last = refl;
  finish = refl;
})

-- what stands then has ascending ids
pub retired_in_order : (b : ProofLog) → IsKept b → is_between_steps (phase_of b.history) ≡ false →
    AreInOrder (live b.problem (Retire (next_id b) ∷ b.history))
retired_in_order b k phase = live_in_order b.problem (Retire (next_id b) ∷ b.history) (retire_is_right b (next_id b) refl phase, k.right)

pub recorded_retire : (last id : ℕ) (ids : List ℕ) (b : ProofLog) → IsRecorded last ids b → id ≡ last + 1 → id < 2 ^ 64 →
    is_between_steps (phase_of b.history) ≡ false → IsRecorded id ids (with_line b (Retire id))
recorded_retire last id ids b r is high phase =
    let next : id ≡ last_id b.problem b.history + 1 = is ∙ ap (λ n. n + 1) r.last_is in
    let e : Entry = record { id = id; origin = Retired; literals = negation (activation_of b.problem (step_of b.history)) ∷ [] } in
    record {
      kept = record {
        right = (retire_is_right b id next phase, r.kept.right);
        lean = r.kept.lean;
        texts = ((omega (arith, is), high), r.kept.texts);
      };
      last_is = refl;
      lemmas = r.lemmas ∙ sym (ap (λ es. map (λ (x : Entry). x.id) (filter is_lemma es)) (retired_stands b id r.kept next) ∙
          ids_with (live b.problem b.history) e ∙ append-nil (lemma_ids b));
    }

pub lemma_stands : (b : ProofLog) (id : ℕ) (lits : Clause) (hints : List ℕ) → IsKept b → id ≡ last_id b.problem b.history + 1 →
    live b.problem (Lemma id lits hints ∷ b.history) ≡ live b.problem b.history ++ record { id = id; origin = Learnt; literals = lits } ∷ []
lemma_stands b id lits hints k next = live-push b.problem b.history (record { id = id; origin = Learnt; literals = lits }) k.right next

pub recorded_lemma : (last id : ℕ) (ids : List ℕ) (b : ProofLog) (lits : Clause) (hints : List ℕ) → IsRecorded last ids b → id ≡ last + 1 → id < 2 ^ 64 →
    in_solve (phase_of b.history) ≡ true → IsLoggedLearnt (live b.problem b.history) lits hints → All HasVariable lits → IsNew b.problem b.history lits →
    IsRecorded id (ids ++ id ∷ []) (with_lemma b id lits hints)
recorded_lemma last id ids b lits hints r is high phase learnt range new =
    let next : id ≡ last_id b.problem b.history + 1 = is ∙ ap (λ n. n + 1) r.last_is in
    let low : last_id b.problem b.history < 2 ^ 64 = omega (arith, next, high) in
    let e : Entry = record { id = id; origin = Learnt; literals = lits } in
    let right : IsRight b.problem (state_of b.problem b.history) (Lemma id lits hints) = record {
      order = and_from (in_solve (phase_of b.history)) (eqb id (last_id b.problem b.history + 1)) phase (eq-eqb id (last_id b.problem b.history + 1) next);
      names = all_list (λ h. is_some (entry_of (live b.problem b.history) h)) hints learnt.named;
      distinct = learnt.distinct;
      block = refl;
      unit = learnt.unit;
      last = learnt.last;
      finish = refl;
    } in
    record {
      kept = record {
        right = (none_from_right b.problem (state_of b.problem b.history) (Lemma id lits hints) right, r.kept.right);
        lean = (new, learnt.resolvent, r.kept.lean);
        texts = (
          (
            (omega (arith, is), high),
            recursion_from_All HasVariable lits range,
            hints_are_ids b.problem b.history hints r.kept.right low learnt.named,
            some_hints lits (live b.problem b.history) hints learnt.last,
          ),
          r.kept.texts,
        );
      };
      last_is = refl;
      lemmas = ap (λ xs. xs ++ id ∷ []) r.lemmas ∙ sym (
          ap (λ es. map (λ (x : Entry). x.id) (filter is_lemma es)) (lemma_stands b id lits hints r.kept next) ∙ ids_with (live b.problem b.history) e);
    }

-- ---- a line that takes clauses away

-- the ids of a right delete line ascend
pub deleted_rise : (p : Problem) (h : History) (ids : List ℕ) → refusal p (state_of p h) (Delete ids) ≡ None → Rises ids
deleted_rise p h ids right =
    ascending_rises ids (and_parts (is_after_retire (phase_of h)) (is_ascending ids) (right_from_none p (state_of p h) (Delete ids) right).order).1

pub recorded_delete : (last : ℕ) (ids gone left : List ℕ) (b : ProofLog) → IsRecorded last ids b → last < 2 ^ 64 →
    refusal b.problem (state_of b.problem b.history) (Delete gone) ≡ None → 0 < length gone → left ≡ filter (λ id. not (is_among gone id)) ids →
    IsRecorded last left (with_line b (Delete gone))
recorded_delete last ids gone left b r high right some is_left = record {
  kept = record {
    right = (right, r.kept.right);
    lean = r.kept.lean;
    texts = (
      (
        deleted_are_ids b.problem b.history gone r.kept.right (subst (λ n. n < 2 ^ 64) r.last_is high)
            (right_from_none b.problem (state_of b.problem b.history) (Delete gone) right).names,
        some,
      ),
      r.kept.texts,
    );
  };
  last_is = r.last_is;
  lemmas = is_left ∙ ap (filter (λ id. not (is_among gone id))) r.lemmas ∙ sym (
      ap (λ es. map (λ (x : Entry). x.id) (filter is_lemma es)) (live_after b.problem b.history gone) ∙
      ids_without (λ id. not (is_among gone id)) (live b.problem b.history));
}

-- one line, where there are any
pub without_some : (b : ProofLog) (ids : List ℕ) → 0 < length ids → without b ids ≡ with_line b (Delete ids)
without_some b [] some = absurd (omega (arith, some))
without_some b (id ∷ ids) some = refl

filter_true : (es : List Entry) → filter (λ (e : Entry). true) es ≡ es
filter_true [] = refl
filter_true (e ∷ es) = ap (λ r. e ∷ r) (filter_true es)

-- where there are none, all stay
pub none_left : (ids : List ℕ) (es : List Entry) → length ids ≡ 0 → es ≡ filter (λ e. not (is_among ids e.id)) es
none_left [] es none = sym (filter_true es)
none_left (id ∷ ids) es none = absurd (omega (arith, none))

-- what stands then
pub without_stands : (b : ProofLog) (ids : List ℕ) →
    live (without b ids).problem (without b ids).history ≡ filter (λ e. not (is_among ids e.id)) (live b.problem b.history)
without_stands b [] = none_left [] (live b.problem b.history) refl
without_stands b (id ∷ ids) = live_after b.problem b.history (id ∷ ids)
