-- No line is refused where ids and variables go.
use Rattle.std.proofs.Common.{◌≡◌, ℕ, ◌+◌, ◌-◌, ◌≤◌, arith, Bool, true, not, ◌&&◌, ◌||◌, eqb, ltb, leb, List, [], ◌∷◌, map, length, refl, ap, ◌∙◌, Option, Some, None, inl, inr}
use Rattle.std.specs.Prelude.{option_map, is_some, unwrap_or, slice_get}
use Rattle.std.specs.List.{list_all}
use Rattle.std.proofs.lemmas.Bool.{and_parts, and_from, eq-eqb, leb-true, le-leb}
use Rattle.std.proofs.lemmas.List.{length-map}
use Rattle.std.proofs.lemmas.Option.{slice_get-map}
use Rattle.bs_clause.specs.Literal.{Literal, Clause, negation, same_literal}
use Rattle.bs_log.specs.declared.line.Line.{Line}
use Rattle.bs_log.specs.declared.line.Line.TheVariants.{Solve, Lemma, Block, Finish, Retire, Delete}
use Rattle.bs_log.specs.declared.phase.Phase.{Phase}
use Rattle.bs_log.specs.History.{Problem, History, Entry, live, last_id, phase_of, step_of, state_of, activation_of}
use Rattle.bs_log.specs.Propagation.{hints_are_unit, last_is_false}
use Rattle.bs_log.specs.Refusal.{NoneRefused, entry_of, clauses_of, passes, is_lemma, is_lemma_or_block, is_block_of, denies, assumptions_of, is_ascending, in_solve, is_after_block, is_after_retire, is_between_steps, is_complete}
use Rattle.bs_log.proofs.Laws.{step_of-positive}
use Rattle.bs_log.proofs.Tests.{IsRight, right_from_none, none_from_right}
use Rattle.bs_log.proofs.Histories.{next_given}
use Rattle.bs_reach.specs.declared.offsets.Shift.{Shift}
use Rattle.bs_reach.specs.Renamed.{new_id, new_variable, new_literal, new_clause, new_line}
use Rattle.bs_reach.specs.Widened.{IsWidened}
use Rattle.bs_reach.proofs.ShiftLemmas.{IsShift, same_test, less_id, variable_place, VariablePlace, same_new_literal}
use Rattle.bs_reach.proofs.PropagationLemmas.{same_distinct, same_denies, same_some, still_unit, still_false}
use Rattle.bs_reach.proofs.EntryLemmas.{new_entry, new_lines, same_step, new_activation}
use Rattle.bs_reach.proofs.AxiomLemmas.{shift_is}
use Rattle.bs_reach.proofs.StateLemmas.{same_phase, named, new_hints, next_still}

pub same_passes : (s : Shift) (t u : Entry → Bool) → ((e : Entry) → u (new_entry s e) ≡ t e) → (o : Option Entry) →
    passes u (option_map (new_entry s) o) ≡ passes t o
same_passes s t u same None = refl
same_passes s t u same (Some e) = same e

still_ascending : (s : Shift) (ids : List ℕ) → IsShift s → is_ascending (map (new_id s) ids) ≡ is_ascending ids
still_ascending s [] ok = refl
still_ascending s (x ∷ []) ok = refl
still_ascending s (x ∷ y ∷ ids) ok =
    ap (λ t. t && is_ascending (map (new_id s) (y ∷ ids))) (less_id s x y ok) ∙ ap (λ t. ltb x y && t) (still_ascending s (y ∷ ids) ok)

module _ (s : Shift) (p q : Problem) (w : IsWidened s p q) where
  ok : IsShift s
  ok = shift_is s p q w

  pub new_assumptions : (n : ℕ) → assumptions_of q n ≡ new_clause s (assumptions_of p n)
  new_assumptions n =
      ap (λ (cs : List Clause). unwrap_or (slice_get cs (n - 1)) []) w.steps_are
      ∙ (ap (λ (o : Option Clause). unwrap_or o []) (slice_get-map (new_clause s) p.steps (n - 1)) ∙ by (slice_get p.steps (n - 1)))
    where
      by : (o : Option Clause) → unwrap_or (option_map (new_clause s) o) [] ≡ new_clause s (unwrap_or o [])
      by None = refl
      by (Some c) = refl

  same_count : length q.steps ≡ length p.steps
  same_count = ap length w.steps_are ∙ length-map p.steps (new_clause s)

  -- ---- blocks

  below_back : (v new : ℕ) → VariablePlace s v new → new ≤ q.vars → v ≤ p.vars
  below_back v new (inl a) le = let stay = w.vars_stay in omega (arith, a.0, stay)
  below_back v new (inr a) le = let go = w.vars_go in omega (arith, a.1, go, le)

  below_still : (v new : ℕ) → VariablePlace s v new → v ≤ p.vars → new ≤ q.vars
  below_still v new (inl a) le = let go = w.vars_go in omega (arith, a.1, go, le)
  below_still v new (inr a) le = let stay = w.vars_stay in absurd (omega (arith, a.0, stay, le))

  same_below : (v : ℕ) → leb (new_variable s v) q.vars ≡ leb v p.vars
  same_below v =
      same_test (leb (new_variable s v) q.vars) (leb v p.vars)
      (λ t. le-leb v p.vars (below_back v (new_variable s v) (variable_place s v) (leb-true (new_variable s v) q.vars t)))
      (λ t. le-leb (new_variable s v) q.vars (below_still v (new_variable s v) (variable_place s v) (leb-true v p.vars t)))

  all_below : (c : Clause) → list_all (λ (l : Literal). leb l.variable q.vars) (new_clause s c) ≡ list_all (λ (l : Literal). leb l.variable p.vars) c
  all_below [] = refl
  all_below (l ∷ c) =
      ap (λ t. t && list_all (λ (m : Literal). leb m.variable q.vars) (new_clause s c)) (same_below l.variable)
      ∙ ap (λ t. leb l.variable p.vars && t) (all_below c)

  still_block : (h : History) (c : Clause) → is_block_of q (step_of (new_lines s h)) (new_clause s c) ≡ is_block_of p (step_of h) c
  still_block h [] = refl
  still_block h (l ∷ c) =
      let within : Bool = list_all (λ (m : Literal). leb m.variable q.vars) (new_clause s c) in
      ap (λ n. same_literal (new_literal s l) (negation (activation_of q n)) && within) (same_step s h)
      ∙ (ap (λ (g : Literal). same_literal (new_literal s l) (negation g) && within) (new_activation s p q w.vars_stay w.vars_go (step_of h) (step_of-positive h))
      ∙ (ap (λ t. t && within) (same_new_literal s l (negation (activation_of p (step_of h))))
      ∙ ap (λ t. same_literal l (negation (activation_of p (step_of h))) && t) (all_below c)))

  -- ---- names

  all_named : (h : History) (t : Option Entry → Bool) → ((o : Option Entry) → t (option_map (new_entry s) o) ≡ t o) → (ids : List ℕ) →
      list_all (λ i. t (entry_of (live q (new_lines s h)) i)) (map (new_id s) ids) ≡ list_all (λ i. t (entry_of (live p h) i)) ids
  all_named h t same [] = refl
  all_named h t same (i ∷ ids) =
      ap (λ b. b && list_all (λ x. t (entry_of (live q (new_lines s h)) x)) (map (new_id s) ids)) (ap t (named s p q w h i) ∙ same (entry_of (live p h) i))
      ∙ ap (λ b. t (entry_of (live p h) i) && b) (all_named h t same ids)

  -- ---- the order of lines

  next_right : (h : History) (t u : Bool) (id : ℕ) → NoneRefused p h → u ≡ t → (t && eqb id (last_id p h + 1)) ≡ true →
      (u && eqb (new_id s id) (last_id q (new_lines s h) + 1)) ≡ true
  next_right h t u id right same order =
      let parts = and_parts t (eqb id (last_id p h + 1)) order in
      and_from u (eqb (new_id s id) (last_id q (new_lines s h) + 1)) (same ∙ parts.0)
      (eq-eqb (new_id s id) (last_id q (new_lines s h) + 1) (next_still s p q w h id right (next_given p h t id order)))

  abbrev begins : Phase → ℕ → ℕ → Bool
  begins phase step count = is_after_block phase || (is_between_steps phase && leb step count)

  still_right : (h : History) (line : Line) → NoneRefused p h → IsRight p (state_of p h) line → IsRight q (state_of q (new_lines s h)) (new_line s line)
  still_right h Solve right r = record {
    order = ap (λ (f : Phase). begins f (step_of (new_lines s h)) (length q.steps)) (same_phase s h)
        ∙ (ap (λ n. begins (phase_of h) n (length q.steps)) (same_step s h) ∙ (ap (λ n. begins (phase_of h) (step_of h) n) same_count ∙ r.order));
    names = refl;
    distinct = refl;
    block = refl;
    unit = refl;
    last = refl;
    finish = refl;
  }
  still_right h (Lemma id lits hints) right r = record {
    order = next_right h (in_solve (phase_of h)) (in_solve (phase_of (new_lines s h))) id right (ap in_solve (same_phase s h)) r.order;
    names = all_named h is_some (same_some (new_entry s)) hints ∙ r.names;
    distinct = same_distinct s lits ∙ r.distinct;
    block = refl;
    unit = ap (hints_are_unit (new_clause s lits)) (new_hints s p q w h hints) ∙ (still_unit s lits (clauses_of (live p h) hints) ∙ r.unit);
    last = ap (last_is_false (new_clause s lits)) (new_hints s p q w h hints) ∙ (still_false s lits (clauses_of (live p h) hints) ∙ r.last);
    finish = refl;
  }
  still_right h (Block id lits) right r = record {
    order = next_right h (in_solve (phase_of h)) (in_solve (phase_of (new_lines s h))) id right (ap in_solve (same_phase s h)) r.order;
    names = refl;
    distinct = same_distinct s lits ∙ r.distinct;
    block = still_block h lits ∙ r.block;
    unit = refl;
    last = refl;
    finish = refl;
  }
  still_right h (Finish id) right r =
      let assumed : Clause = assumptions_of p (step_of h) in
      record {
        order = ap in_solve (same_phase s h) ∙ r.order;
        names = ap (passes is_lemma) (named s p q w h id) ∙ (same_passes s is_lemma is_lemma (λ e. refl) (entry_of (live p h) id) ∙ r.names);
        distinct = refl;
        block = refl;
        unit = refl;
        last = refl;
        finish =
            ap (λ n. passes (λ e. denies (assumptions_of q n) e.literals) (entry_of (live q (new_lines s h)) (new_id s id))) (same_step s h)
            ∙ (ap (λ (a : Clause). passes (λ e. denies a e.literals) (entry_of (live q (new_lines s h)) (new_id s id))) (new_assumptions (step_of h))
            ∙ (ap (passes (λ e. denies (new_clause s assumed) e.literals)) (named s p q w h id)
            ∙ (same_passes s (λ e. denies assumed e.literals) (λ e. denies (new_clause s assumed) e.literals) (λ e. same_denies s assumed e.literals)
            (entry_of (live p h) id)
            ∙ r.finish)));
      }
  still_right h (Retire id) right r = record {
    order = next_right h (not (is_between_steps (phase_of h))) (not (is_between_steps (phase_of (new_lines s h)))) id right
        (ap (λ (f : Phase). not (is_between_steps f)) (same_phase s h)) r.order;
    names = refl;
    distinct = refl;
    block = refl;
    unit = refl;
    last = refl;
    finish = refl;
  }
  still_right h (Delete ids) right r = record {
    order = ap (λ (f : Phase). is_after_retire f && is_ascending (map (new_id s) ids)) (same_phase s h)
        ∙ (ap (λ t. is_after_retire (phase_of h) && t) (still_ascending s ids ok) ∙ r.order);
    names = all_named h (passes is_lemma_or_block) (same_passes s is_lemma_or_block is_lemma_or_block (λ e. refl)) ids ∙ r.names;
    distinct = refl;
    block = refl;
    unit = refl;
    last = refl;
    finish = refl;
  }

  pub none_refused : (h : History) → NoneRefused p h → NoneRefused q (new_lines s h)
  none_refused [] right = tt
  none_refused (line ∷ h) right = (
    none_from_right q (state_of q (new_lines s h)) (new_line s line)
        (still_right h line right.1 (right_from_none p (state_of p h) line right.0)),
    none_refused h right.1,
  )

  pub still_complete : (h : History) → is_complete q (state_of q (new_lines s h)) ≡ is_complete p (state_of p h)
  still_complete h =
      ap (λ (f : Phase). is_between_steps f && eqb (step_of (new_lines s h)) (length q.steps + 1)) (same_phase s h)
      ∙ (ap (λ n. is_between_steps (phase_of h) && eqb n (length q.steps + 1)) (same_step s h)
      ∙ ap (λ n. is_between_steps (phase_of h) && eqb (step_of h) (n + 1)) same_count)
