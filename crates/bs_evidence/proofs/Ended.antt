-- The clauses that turn finished steps off stand up to the end.
use Rattle.std.proofs.Common.{◌≡◌, ℕ, zero, suc, ◌+◌, ◌<◌, ◌≤◌, arith, Bool, true, false, not, ◌||◌, cond, eqb, List, [], ◌∷◌, ◌++◌, map, refl, sym, ap, ◌∙◌}
use Rattle.std.proofs.Common.{Option, Some, None}
use Rattle.std.specs.Prelude.{is_some, option_map}
use Rattle.std.specs.Option.{option_or}
use Rattle.std.specs.List.{list_any, list_all, filter, cons_option, range_with_len, AllByRecursion}
use Rattle.std.proofs.lemmas.Bool.{eqb-true, eq-eqb, ne_eqb, and_parts, and_from, false≢true}
use Rattle.bs_clause.specs.Literal.{Literal, Clause, negation}
use Rattle.bs_log.specs.declared.line.Line.{Line}
use Rattle.bs_log.specs.declared.line.Line.TheVariants.{Solve, Lemma, Block, Finish, Retire, Delete}
use Rattle.bs_log.specs.declared.origin.Origin.TheVariants.{Learnt, Blocked, Retired}
use Rattle.bs_log.specs.History.{Problem, History, Entry, step_of, added, live, is_deleted, last_id, state_of, phase_of}
use Rattle.bs_log.specs.Refusal.{NoneRefused, entry_of, clauses_of, passes, is_lemma_or_block, in_solve, is_between_steps, has_distinct_variables}
use Rattle.bs_log.proofs.Elements.{AllByRecursion-filter}
use Rattle.bs_log.proofs.Tests.{right_from_none}
use Rattle.bs_log.proofs.Histories.{next_given, added_ids, live-push, filter-twice}
use Rattle.bs_log.specs.Cnf.{closed}
use Rattle.bs_log.proofs.Found.{found_filter, found_append, found_above}
use Rattle.bs_log.proofs.ShownLaws.{each_append, each_weaker}
use Rattle.bs_evidence.specs.WholeCnf.{one_of}
use Rattle.bs_evidence.specs.WholeProof.{under_of, ended_at, ended}
use Rattle.bs_evidence.proofs.Giving.{step_in}

-- the clause that a retire line adds
abbrev pub retired : Problem → ℕ × ℕ → Entry
retired p e = record { id = e.0; origin = Retired; literals = closed p e.1 }

-- it stands
abbrev pub IsRetired : Problem → History → ℕ × ℕ → Type 0
IsRetired p h e = entry_of (live p h) e.0 ≡ Some (retired p e)

abbrev pub id_in : ℕ × ℕ → ℕ
id_in e = e.0

module _ (p : Problem) where
  found_last : (xs : List Entry) (x : Entry) (e : ℕ × ℕ) → entry_of xs e.0 ≡ Some (retired p e) → entry_of (xs ++ x ∷ []) e.0 ≡ Some (retired p e)
  found_last xs x e there =
      found_append xs (x ∷ []) e.0 ∙ ap (λ (o : Option Entry). option_or o (entry_of (x ∷ []) e.0)) there

  -- a clause more
  pushed : (h : History) (x : Entry) (e : ℕ × ℕ) → NoneRefused p h → x.id ≡ last_id p h + 1 → IsRetired p h e →
      entry_of (filter (λ y. not (is_deleted h y.id)) (added p h ++ x ∷ [])) e.0 ≡ Some (retired p e)
  pushed h x e right next there =
      ap (λ (es : List Entry). entry_of es e.0) (live-push p h x right next) ∙ found_last (live p h) x e there

  -- no delete line names it
  not_named : (h : History) (e : ℕ × ℕ) (ids : List ℕ) → IsRetired p h e → list_all (λ d. passes is_lemma_or_block (entry_of (live p h) d)) ids ≡ true →
      list_any (λ d. eqb e.0 d) ids ≡ false
  not_named h e [] there stand = refl
  not_named h e (d ∷ ds) there stand =
      let parts = and_parts (passes is_lemma_or_block (entry_of (live p h) d)) (list_all (λ x. passes is_lemma_or_block (entry_of (live p h) x)) ds) stand in
      by (eqb e.0 d) refl parts.0 (not_named h e ds there parts.1)
    where
      by : (b : Bool) → eqb e.0 d ≡ b → passes is_lemma_or_block (entry_of (live p h) d) ≡ true → list_any (λ d. eqb e.0 d) ds ≡ false →
          (b || list_any (λ d. eqb e.0 d) ds) ≡ false
      by true same here later =
          absurd (false≢true (sym (ap (λ n. passes is_lemma_or_block (entry_of (live p h) n)) (sym (eqb-true e.0 d same)) ∙ ap (passes is_lemma_or_block) there) ∙ here))
      by false apart here later = later

  deleted : (h : History) (ids : List ℕ) (e : ℕ × ℕ) → NoneRefused p (Delete ids ∷ h) → IsRetired p h e → IsRetired p (Delete ids ∷ h) e
  deleted h ids e right there =
      ap (λ (es : List Entry). entry_of es e.0) (filter-twice (λ i. list_any (λ d. eqb i d) ids) (is_deleted h) (added p h))
      ∙ (found_filter (λ i. list_any (λ d. eqb i d) ids) (live p h) e.0
      ∙ (ap (λ b. cond b None (entry_of (live p h) e.0)) (not_named h e ids there (right_from_none p (state_of p h) (Delete ids) right.0).names) ∙ there))

  still : (line : Line) (h : History) (e : ℕ × ℕ) → NoneRefused p (line ∷ h) → IsRetired p h e → IsRetired p (line ∷ h) e
  still Solve h e right there = there
  still (Finish id) h e right there = there
  still (Delete ids) h e right there = deleted h ids e right there
  still (Lemma id lits hints) h e right there =
      pushed h (record { id = id; origin = Learnt; literals = lits }) e right.1
      (next_given p h (in_solve (phase_of h)) id (right_from_none p (state_of p h) (Lemma id lits hints) right.0).order) there
  still (Block id lits) h e right there =
      pushed h (record { id = id; origin = Blocked; literals = lits }) e right.1
      (next_given p h (in_solve (phase_of h)) id (right_from_none p (state_of p h) (Block id lits) right.0).order) there
  still (Retire id) h e right there =
      pushed h (record { id = id; origin = Retired; literals = closed p (step_of h) }) e right.1
      (next_given p h (not (is_between_steps (phase_of h))) id (right_from_none p (state_of p h) (Retire id) right.0).order) there

  new_one : (h : History) (id : ℕ) → NoneRefused p (Retire id ∷ h) → IsRetired p (Retire id ∷ h) (id, step_of h)
  new_one h id right =
      let next = next_given p h (not (is_between_steps (phase_of h))) id (right_from_none p (state_of p h) (Retire id) right.0).order in
      let x : Entry = record { id = id; origin = Retired; literals = closed p (step_of h) } in
      let above : entry_of (live p h) id ≡ None =
      found_above (last_id p h) (live p h) id
      (AllByRecursion-filter (λ (e : Entry). e.id ≤ last_id p h) (λ e. not (is_deleted h e.id)) (added p h) (added_ids p h right.1)) (omega (arith, next)) in
      ap (λ (es : List Entry). entry_of es id) (live-push p h x right.1 next)
      ∙ (found_append (live p h) (x ∷ []) id
      ∙ (ap (λ (o : Option Entry). option_or o (entry_of (x ∷ []) id)) above ∙ ap (λ b. cond b (Some x) None) (eq-eqb id id refl)))

  news : (line : Line) (h : History) → NoneRefused p (line ∷ h) → AllByRecursion (IsRetired p (line ∷ h)) (ended_at (under_of h) line)
  news Solve h right = tt
  news (Lemma id lits hints) h right = tt
  news (Block id lits) h right = tt
  news (Finish id) h right = tt
  news (Delete ids) h right = tt
  news (Retire id) h right = by (is_some (under_of h).finish)
    where
      by : (b : Bool) → AllByRecursion (IsRetired p (Retire id ∷ h)) (cond b ((id, step_of h) ∷ []) [])
      by true = (new_one h id right, tt)
      by false = tt

  all_ended : (h : History) → NoneRefused p h → AllByRecursion (IsRetired p h) (ended h)
  all_ended [] right = tt
  all_ended (line ∷ h) right =
      each_append (IsRetired p (line ∷ h)) (ended h) (ended_at (under_of h) line)
      (each_weaker (IsRetired p h) (IsRetired p (line ∷ h)) (ended h) (λ e there. still line h e right there) (all_ended h right.1)) (news line h right)

  stand : (h : History) (es : List (ℕ × ℕ)) → AllByRecursion (IsRetired p h) es →
      list_all (λ i. is_some (entry_of (live p h) i)) (map id_in es) ≡ true
  stand h [] all = refl
  stand h (e ∷ es) all =
      and_from (is_some (entry_of (live p h) e.0)) (list_all (λ i. is_some (entry_of (live p h) i)) (map id_in es)) (ap is_some all.0) (stand h es all.1)

  clauses : (h : History) (es : List (ℕ × ℕ)) → AllByRecursion (IsRetired p h) es → clauses_of (live p h) (map id_in es) ≡ map (closed p) (map step_in es)
  clauses h [] all = refl
  clauses h (e ∷ es) all =
      ap (λ (o : Option Entry). cons_option (option_map (λ (x : Entry). x.literals) o) (clauses_of (live p h) (map id_in es))) all.0
      ∙ ap (λ (cs : List Clause). closed p e.1 ∷ cs) (clauses h es all.1)

  pub ended_stand : (h : History) → NoneRefused p h → list_all (λ i. is_some (entry_of (live p h) i)) (map id_in (ended h)) ≡ true
  ended_stand h right = stand h (ended h) (all_ended h right)

  pub ended_clauses : (h : History) → NoneRefused p h → clauses_of (live p h) (map id_in (ended h)) ≡ map (closed p) (map step_in (ended h))
  ended_clauses h right = clauses h (ended h) (all_ended h right)

  -- ---- no step twice

  none_low : (t : ℕ → Bool) (a b n : ℕ) → a < b →
      list_any (λ (m : Literal). eqb m.variable (p.vars + a)) (one_of p (filter t (range_with_len b n))) ≡ false
  none_low t a b zero less = refl
  none_low t a b (suc n) less = by (t b) (none_low t a (b + 1) n (omega (arith, less)))
    where
      by : (x : Bool) → list_any (λ (m : Literal). eqb m.variable (p.vars + a)) (one_of p (filter t (range_with_len (b + 1) n))) ≡ false →
          list_any (λ (m : Literal). eqb m.variable (p.vars + a))
          (one_of p (cond x (b ∷ filter t (range_with_len (b + 1) n)) (filter t (range_with_len (b + 1) n)))) ≡ false
      by true later =
          ap (λ c. c || list_any (λ (m : Literal). eqb m.variable (p.vars + a)) (one_of p (filter t (range_with_len (b + 1) n))))
          (ne_eqb (p.vars + b) (p.vars + a) (λ same. omega (arith, same, less))) ∙ later
      by false later = later

  pub steps_distinct : (t : ℕ → Bool) (a n : ℕ) → has_distinct_variables (one_of p (filter t (range_with_len a n))) ≡ true
  steps_distinct t a zero = refl
  steps_distinct t a (suc n) = by (t a) (steps_distinct t (a + 1) n)
    where
      by : (x : Bool) → has_distinct_variables (one_of p (filter t (range_with_len (a + 1) n))) ≡ true →
          has_distinct_variables (one_of p (cond x (a ∷ filter t (range_with_len (a + 1) n)) (filter t (range_with_len (a + 1) n)))) ≡ true
      by true later =
          and_from (not (list_any (λ (m : Literal). eqb m.variable (p.vars + a)) (one_of p (filter t (range_with_len (a + 1) n)))))
          (has_distinct_variables (one_of p (filter t (range_with_len (a + 1) n))))
          (ap not (none_low t a (a + 1) n (omega arith))) later
      by false later = later

  -- the last clause denies the clauses that turn steps off
  pub closed_all : (steps : List ℕ) → map (λ l. negation l ∷ []) (one_of p steps) ≡ map (closed p) steps
  closed_all [] = refl
  closed_all (s ∷ ss) = ap (λ (cs : List Clause). closed p s ∷ cs) (closed_all ss)
