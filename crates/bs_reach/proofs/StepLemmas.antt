-- What a step leaves, where ids and variables go.
use Rattle.std.proofs.Common.{◌≡◌, ℕ, ◌+◌, arith, Bool, true, false, not, ◌&&◌, ◌||◌, cond, ltb, leb, List, [], ◌∷◌, ◌++◌, map, length, refl, sym, ap, ◌∙◌, inl, inr}
use Rattle.std.specs.List.{list_any, filter}
use Rattle.std.proofs.lemmas.Bool.{lt-ltb, le-ltb, leb-true, le-leb, and_left}
use Rattle.std.proofs.lemmas.List.{length-map}
use Rattle.std.proofs.lemmas.List.Elements.{filter-append}
use Rattle.std.proofs.lemmas.List.Sums.{length-filter}
use Rattle.bs_clause.specs.Literal.{Clause}
use Rattle.bs_log.specs.declared.line.Line.TheVariants.{Solve, Lemma, Block, Finish, Retire, Delete}
use Rattle.bs_log.specs.declared.origin.Origin.TheVariants.{Axiom}
use Rattle.bs_log.specs.History.{Problem, History, Entry, axioms_from, live, step_of}
use Rattle.bs_log.specs.Refusal.{is_lemma}
use Rattle.bs_log.specs.Kept.{has_retired_activation, is_free_lemma, is_long, newer_long, is_kept, kept_lemmas}
use Rattle.bs_log.specs.Lean.{is_block, LeavesKept, StepsLeaveKept}
use Rattle.bs_reach.specs.declared.offsets.Shift.{Shift}
use Rattle.bs_reach.specs.Renamed.{new_id, new_variable, new_literal, new_clause}
use Rattle.bs_reach.specs.Widened.{IsWidened}
use Rattle.bs_reach.proofs.ShiftLemmas.{IsShift, same_test, less_id, variable_place, VariablePlace}
use Rattle.bs_reach.proofs.EntryLemmas.{new_entry, new_lines, filter_moved, same_step, stands, axioms_left, own_left, live_is, new_own_left}
use Rattle.bs_reach.proofs.AxiomLemmas.{shift_is}

abbrev axiom_at : ℕ → Clause → Entry
axiom_at n c = record { id = n; origin = Axiom; literals = c }

passes_none : (t f : Entry → Bool) → ((n : ℕ) (c : Clause) → t (axiom_at n c) ≡ false) → (n : ℕ) (cs : List Clause) →
    filter t (filter f (axioms_from n cs)) ≡ []
passes_none t f fails n [] = refl
passes_none t f fails n (c ∷ cs) = by (f (axiom_at n c)) (passes_none t f fails (n + 1) cs)
  where
    by : (b : Bool) → filter t (filter f (axioms_from (n + 1) cs)) ≡ [] →
        filter t (cond b (axiom_at n c ∷ filter f (axioms_from (n + 1) cs)) (filter f (axioms_from (n + 1) cs))) ≡ []
    by true later =
        ap (λ x. cond x (axiom_at n c ∷ filter t (filter f (axioms_from (n + 1) cs))) (filter t (filter f (axioms_from (n + 1) cs)))) (fails n c) ∙ later
    by false later = later

not_empty : {X : Type 0} → List X → Bool
not_empty [] = false
not_empty (x ∷ xs) = true

any_filter : {X : Type 0} (t : X → Bool) (xs : List X) → list_any t xs ≡ not_empty (filter t xs)
unfolding not_empty
any_filter t [] = refl
any_filter {X} t (x ∷ xs) = by (t x) (any_filter t xs)
  where
    by : (b : Bool) → list_any t xs ≡ not_empty (filter t xs) → (b || list_any t xs) ≡ not_empty (cond b (x ∷ filter t xs) (filter t xs))
    by true later = refl
    by false later = later

still_empty : {X Y : Type 0} (f : X → Y) (xs : List X) → not_empty (map f xs) ≡ not_empty xs
unfolding not_empty
still_empty f [] = refl
still_empty f (x ∷ xs) = refl

module _ (s : Shift) (p q : Problem) (w : IsWidened s p q) where
  ok : IsShift s
  ok = shift_is s p q w

  -- what passes a test that no clause of the list passes
  filter_live : (h : History) (t u : Entry → Bool) → ((n : ℕ) (c : Clause) → t (axiom_at n c) ≡ false) → ((n : ℕ) (c : Clause) → u (axiom_at n c) ≡ false) →
      ((e : Entry) → u (new_entry s e) ≡ t e) → filter u (live q (new_lines s h)) ≡ map (new_entry s) (filter t (live p h))
  filter_live h t u none_t none_u same =
      ap (filter u) (live_is q (new_lines s h))
      ∙ (filter-append u (axioms_left q (new_lines s h)) (own_left q (new_lines s h))
      ∙ (ap (λ (es : List Entry). es ++ filter u (own_left q (new_lines s h))) (passes_none u (stands (new_lines s h)) none_u 1 q.clauses)
      ∙ (ap (filter u) (new_own_left s p q w.vars_stay w.vars_go h ok)
      ∙ (filter_moved (new_entry s) t u same (own_left p h)
      ∙ ap (map (new_entry s)) (sym
      (ap (filter t) (live_is p h)
      ∙ (filter-append t (axioms_left p h) (own_left p h)
      ∙ ap (λ (es : List Entry). es ++ filter t (own_left p h)) (passes_none t (stands h) none_t 1 p.clauses))))))))

  -- ---- activation literals of earlier steps

  abbrev IsRetired : Problem → ℕ → ℕ → Bool
  IsRetired r step v = ltb r.vars v && leb v (r.vars + step)

  retired_at : (step v new : ℕ) → VariablePlace s v new → IsRetired q step new ≡ IsRetired p step v
  retired_at step v new (inl a) =
      let stay = w.vars_stay in
      let go = w.vars_go in
      and_left (ltb q.vars new) (leb new (q.vars + step)) (le-ltb q.vars new (omega (arith, a.0, a.1, stay, go)))
      ∙ sym (and_left (ltb p.vars v) (leb v (p.vars + step)) (le-ltb p.vars v (omega (arith, a.0, stay))))
  retired_at step v new (inr a) =
      let stay = w.vars_stay in
      let go = w.vars_go in
      let above : ltb q.vars new ≡ ltb p.vars v =
      lt-ltb q.vars new (omega (arith, a.0, a.1, stay, go)) ∙ sym (lt-ltb p.vars v (omega (arith, a.0, stay))) in
      let below : leb new (q.vars + step) ≡ leb v (p.vars + step) =
      same_test (leb new (q.vars + step)) (leb v (p.vars + step))
      (λ t. le-leb v (p.vars + step) (let le = leb-true new (q.vars + step) t in omega (arith, le, a.1, go)))
      (λ t. le-leb new (q.vars + step) (let le = leb-true v (p.vars + step) t in omega (arith, le, a.1, go))) in
      ap (λ t. t && leb new (q.vars + step)) above ∙ ap (λ t. ltb p.vars v && t) below

  same_retired : (step : ℕ) (c : Clause) → has_retired_activation q step (new_clause s c) ≡ has_retired_activation p step c
  same_retired step [] = refl
  same_retired step (l ∷ c) =
      ap (λ t. t || has_retired_activation q step (new_clause s c)) (retired_at step l.variable (new_variable s l.variable) (variable_place s l.variable))
      ∙ ap (λ t. IsRetired p step l.variable || t) (same_retired step c)

  -- ---- lemmas that are kept

  same_free : (step : ℕ) (e : Entry) → is_free_lemma q step (new_entry s e) ≡ is_free_lemma p step e
  same_free step e = ap (λ t. is_lemma e && not t) (same_retired step e.literals)

  same_long : (e : Entry) → is_long (new_entry s e) ≡ is_long e
  same_long e = ap (ltb 8) (length-map e.literals (new_literal s))

  abbrev newer : Problem → ℕ → ℕ → Entry → Bool
  newer r step id o = is_free_lemma r step o && is_long o && ltb id o.id

  same_newer : (step : ℕ) (e o : Entry) → newer q step (new_id s e.id) (new_entry s o) ≡ newer p step e.id o
  same_newer step e o =
      ap (λ t. t && is_long (new_entry s o) && ltb (new_id s e.id) (new_id s o.id)) (same_free step o)
      ∙ (ap (λ t. is_free_lemma p step o && t && ltb (new_id s e.id) (new_id s o.id)) (same_long o)
      ∙ ap (λ t. is_free_lemma p step o && is_long o && t) (less_id s e.id o.id ok))

  same_count : (h : History) (step : ℕ) (e : Entry) → newer_long q step (live q (new_lines s h)) (new_entry s e) ≡ newer_long p step (live p h) e
  same_count h step e =
      sym (length-filter (newer q step (new_id s e.id)) (live q (new_lines s h)))
      ∙ (ap length (filter_live h (newer p step e.id) (newer q step (new_id s e.id)) (λ n c. refl) (λ n c. refl) (same_newer step e))
      ∙ (length-map (filter (newer p step e.id) (live p h)) (new_entry s) ∙ length-filter (newer p step e.id) (live p h)))

  same_kept : (h : History) (step : ℕ) (e : Entry) → is_kept q step (live q (new_lines s h)) (new_entry s e) ≡ is_kept p step (live p h) e
  same_kept h step e =
      ap (λ t. t && (not (is_long (new_entry s e)) || ltb (newer_long q step (live q (new_lines s h)) (new_entry s e)) 20000)) (same_free step e)
      ∙ (ap (λ t. is_free_lemma p step e && (not t || ltb (newer_long q step (live q (new_lines s h)) (new_entry s e)) 20000)) (same_long e)
      ∙ ap (λ n. is_free_lemma p step e && (not (is_long e) || ltb n 20000)) (same_count h step e))

  new_kept : (h : History) (step : ℕ) → kept_lemmas q step (live q (new_lines s h)) ≡ map (new_entry s) (kept_lemmas p step (live p h))
  new_kept h step =
      filter_live h (is_kept p step (live p h)) (is_kept q step (live q (new_lines s h))) (λ n c. refl) (λ n c. refl) (same_kept h step)

  -- ---- steps

  still_leaves : (earlier retired after : History) → LeavesKept p (step_of earlier) retired after →
      LeavesKept q (step_of (new_lines s earlier)) (new_lines s retired) (new_lines s after)
  still_leaves earlier retired after r = record {
    lemmas = filter_live after is_lemma is_lemma (λ n c. refl) (λ n c. refl) (λ e. refl)
        ∙ (ap (map (new_entry s)) r.lemmas
        ∙ (sym (new_kept retired (step_of earlier)) ∙ ap (λ n. kept_lemmas q n (live q (new_lines s retired))) (sym (same_step s earlier))));
    blocks = any_filter is_block (live q (new_lines s after))
        ∙ (ap not_empty (filter_live after is_block is_block (λ n c. refl) (λ n c. refl) (λ e. refl))
        ∙ (still_empty (new_entry s) (filter is_block (live p after)) ∙ (sym (any_filter is_block (live p after)) ∙ r.blocks)));
  }

  pub steps_still_leave : (h : History) → StepsLeaveKept p h → StepsLeaveKept q (new_lines s h)
  steps_still_leave [] k = tt
  steps_still_leave (Solve ∷ h) k = steps_still_leave h k
  steps_still_leave (Lemma id lits hints ∷ h) k = steps_still_leave h k
  steps_still_leave (Block id lits ∷ h) k = steps_still_leave h k
  steps_still_leave (Finish id ∷ h) k = steps_still_leave h k
  steps_still_leave (Retire id ∷ h) k = (still_leaves h (Retire id ∷ h) (Retire id ∷ h) k.0, steps_still_leave h k.1)
  steps_still_leave (Delete ids ∷ []) k = tt
  steps_still_leave (Delete ids ∷ Retire id ∷ h) k = (still_leaves h (Retire id ∷ h) (Delete ids ∷ Retire id ∷ h) k.0, steps_still_leave h k.1)
  steps_still_leave (Delete ids ∷ Solve ∷ h) k = steps_still_leave (Solve ∷ h) k
  steps_still_leave (Delete ids ∷ Lemma id lits hints ∷ h) k = steps_still_leave (Lemma id lits hints ∷ h) k
  steps_still_leave (Delete ids ∷ Block id lits ∷ h) k = steps_still_leave (Block id lits ∷ h) k
  steps_still_leave (Delete ids ∷ Finish id ∷ h) k = steps_still_leave (Finish id ∷ h) k
  steps_still_leave (Delete ids ∷ Delete more ∷ h) k = steps_still_leave (Delete more ∷ h) k
