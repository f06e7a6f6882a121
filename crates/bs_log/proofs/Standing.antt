-- What stands behind the lines of a proof.
use Rattle.std.proofs.Common.{◌≡◌, ℕ, ◌+◌, ◌<◌, ◌≤◌, arith, Bool, true, false, not, ◌||◌, ◌&&◌, cond, eqb, leb, List, [], ◌∷◌, ◌++◌, map, length, refl, sym, ap, ◌∙◌}
use Rattle.std.proofs.Common.{Option, Some, None}
use Rattle.std.specs.Prelude.{option_map, is_some}
use Rattle.std.specs.Option.{option_or}
use Rattle.std.specs.List.{list_any, list_all, cons_option}
use Rattle.std.proofs.lemmas.Bool.{leb-true, leb-false, and_parts, and_from, false≢true}
use Rattle.std.proofs.lemmas.List.{length-append}
use Rattle.bs_clause.specs.Literal.{Clause}
use Rattle.bs_log.specs.declared.line.Line.TheVariants.{Solve, Lemma, Block, Finish, Retire, Delete}
use Rattle.bs_log.specs.declared.origin.Origin.{Origin}
use Rattle.bs_log.specs.declared.origin.Origin.TheVariants.{Axiom, Learnt, Blocked, Retired}
use Rattle.bs_log.specs.History.{Problem, History, Entry, axioms_from, step_of, added, live, is_deleted, last_id, state_of, phase_of}
use Rattle.bs_log.specs.Refusal.{NoneRefused, entry_of, clauses_of, passes, is_lemma_or_block, in_solve, is_between_steps}
use Rattle.bs_log.proofs.Tests.{right_from_none}
use Rattle.bs_log.proofs.Histories.{next_given}
use Rattle.bs_log.specs.declared.id_offsets.Frame.{Frame}
use Rattle.bs_log.specs.Cnf.{closed}
use Rattle.bs_log.specs.Lines.{raised}
use Rattle.bs_log.specs.Proof.{shown}
use Rattle.bs_log.proofs.Found.{found_filter, found_append, found_other, or_none, axiom_low, axiom_high, axioms_append}
use Rattle.bs_log.proofs.Raising.{raised_low, raised_high, same_raised, raised_apart, same_names, no_names}

-- a clause that the log adds is a lemma of the proof
abbrev pub turned : Origin → Origin
turned Axiom = Axiom
turned Learnt = Learnt
turned Blocked = Learnt
turned Retired = Learnt

abbrev pub new_entry : Frame → Entry → Entry
new_entry f e = record { id = raised f e.id; origin = turned e.origin; literals = e.literals }

-- the clauses of the frame, with more behind them
pub record Fits (f : Frame) (p q : Problem) : Type 0 where
  pub extra : List Clause
  pub clauses : q.clauses ≡ p.clauses ++ extra
  pub front : f.front ≡ length p.clauses
  pub by : f.by ≡ length extra

module _ (f : Frame) (p q : Problem) (w : Fits f p q) where
  -- ---- the first clauses

  old_axiom : (m : ℕ) (cs : List Clause) (i : ℕ) → m + length cs ≤ f.front + 1 →
      entry_of (axioms_from m cs) i ≡ option_map (new_entry f) (entry_of (axioms_from m cs) i)
  old_axiom m [] i small = refl
  old_axiom m (c ∷ cs) i small = by (eqb m i) (old_axiom (m + 1) cs i (omega (arith, small)))
    where
      e : Entry
      e = record { id = m; origin = Axiom; literals = c }

      same : raised f m ≡ m
      same = raised_low f m (omega (arith, small))

      by : (b : Bool) → entry_of (axioms_from (m + 1) cs) i ≡ option_map (new_entry f) (entry_of (axioms_from (m + 1) cs) i) →
          cond b (Some e) (entry_of (axioms_from (m + 1) cs) i) ≡ option_map (new_entry f) (cond b (Some e) (entry_of (axioms_from (m + 1) cs) i))
      by true later = λ t. Some (record { id = sym same t; origin = Axiom; literals = c })
      by false later = later

  all_axioms : axioms_from 1 q.clauses ≡ axioms_from 1 p.clauses ++ axioms_from (f.front + 1) w.extra
  all_axioms = ap (axioms_from 1) w.clauses ∙ axioms_append 1 p.clauses w.extra (f.front + 1) (let at = w.front in omega (arith, at))

  named_axiom : (i : ℕ) → entry_of (axioms_from 1 q.clauses) (raised f i) ≡ option_map (new_entry f) (entry_of (axioms_from 1 p.clauses) i)
  named_axiom i =
      ap (λ (es : List Entry). entry_of es (raised f i)) all_axioms
      ∙ (found_append (axioms_from 1 p.clauses) (axioms_from (f.front + 1) w.extra) (raised f i) ∙ by (leb i f.front) refl)
    where
      front : f.front ≡ length p.clauses
      front = w.front

      more : f.by ≡ length w.extra
      more = w.by

      by : (b : Bool) → leb i f.front ≡ b →
          option_or (entry_of (axioms_from 1 p.clauses) (raised f i)) (entry_of (axioms_from (f.front + 1) w.extra) (raised f i)) ≡
          option_map (new_entry f) (entry_of (axioms_from 1 p.clauses) i)
      by true is =
          let low = leb-true i f.front is in
          ap (λ (n : ℕ). option_or (entry_of (axioms_from 1 p.clauses) n) (entry_of (axioms_from (f.front + 1) w.extra) n)) (raised_low f i low)
          ∙ (ap (λ (o : Option Entry). option_or (entry_of (axioms_from 1 p.clauses) i) o) (axiom_low (f.front + 1) w.extra i (omega (arith, low)))
          ∙ (or_none (entry_of (axioms_from 1 p.clauses) i) ∙ old_axiom 1 p.clauses i (omega (arith, front))))
      by false is =
          let high = leb-false i f.front is in
          ap (λ (n : ℕ). option_or (entry_of (axioms_from 1 p.clauses) n) (entry_of (axioms_from (f.front + 1) w.extra) n)) (raised_high f i high)
          ∙ (ap (λ (o : Option Entry). option_or o (entry_of (axioms_from (f.front + 1) w.extra) (i + f.by)))
          (axiom_high 1 p.clauses (i + f.by) (omega (arith, front, high)))
          ∙ (axiom_high (f.front + 1) w.extra (i + f.by) (omega (arith, more, high))
          ∙ ap (option_map (new_entry f)) (sym (axiom_high 1 p.clauses i (omega (arith, front, high))))))

  -- ---- what lines add and take away

  pushed : (xs xs' : List Entry) (e : Entry) (i : ℕ) → entry_of xs' (raised f i) ≡ option_map (new_entry f) (entry_of xs i) →
      entry_of (xs' ++ new_entry f e ∷ []) (raised f i) ≡ option_map (new_entry f) (entry_of (xs ++ e ∷ []) i)
  pushed xs xs' e i so_far =
      found_append xs' (new_entry f e ∷ []) (raised f i)
      ∙ (ap (λ (o : Option Entry). option_or o (entry_of (new_entry f e ∷ []) (raised f i))) so_far
      ∙ (ap (λ b. option_or (option_map (new_entry f) (entry_of xs i)) (cond b (Some (new_entry f e)) None)) (same_raised f e.id i)
      ∙ (by (entry_of xs i) (eqb e.id i) ∙ ap (option_map (new_entry f)) (sym (found_append xs (e ∷ []) i)))))
    where
      by : (o : Option Entry) (b : Bool) →
          option_or (option_map (new_entry f) o) (cond b (Some (new_entry f e)) None) ≡ option_map (new_entry f) (option_or o (cond b (Some e) None))
      by None true = refl
      by None false = refl
      by (Some x) b = refl

  named_added : (h : History) (i : ℕ) → entry_of (added q (shown f p h)) (raised f i) ≡ option_map (new_entry f) (entry_of (added p h) i)
  named_added [] i = named_axiom i
  named_added (Solve ∷ h) i = named_added h i
  named_added (Finish id ∷ h) i = named_added h i
  named_added (Delete ids ∷ h) i = named_added h i
  named_added (Lemma id lits hints ∷ h) i =
      pushed (added p h) (added q (shown f p h)) (record { id = id; origin = Learnt; literals = lits }) i (named_added h i)
  named_added (Block id lits ∷ h) i =
      pushed (added p h) (added q (shown f p h)) (record { id = id; origin = Blocked; literals = lits }) i (named_added h i)
  named_added (Retire id ∷ h) i =
      pushed (added p h) (added q (shown f p h)) (record { id = id; origin = Retired; literals = closed p (step_of h) }) i (named_added h i)

  same_gone : (h : History) (i : ℕ) → is_deleted (shown f p h) (raised f i) ≡ is_deleted h i
  same_gone [] i = refl
  same_gone (Solve ∷ h) i = same_gone h i
  same_gone (Finish id ∷ h) i = same_gone h i
  same_gone (Lemma id lits hints ∷ h) i = same_gone h i
  same_gone (Block id lits ∷ h) i = same_gone h i
  same_gone (Retire id ∷ h) i = same_gone h i
  same_gone (Delete ids ∷ h) i =
      ap (λ t. t || is_deleted (shown f p h) (raised f i)) (same_names f i ids) ∙ ap (λ t. list_any (λ d. eqb i d) ids || t) (same_gone h i)

  -- what an id of the log names stands under its new id
  pub named : (h : History) (i : ℕ) → entry_of (live q (shown f p h)) (raised f i) ≡ option_map (new_entry f) (entry_of (live p h) i)
  named h i =
      found_filter (is_deleted (shown f p h)) (added q (shown f p h)) (raised f i)
      ∙ (ap (λ t. cond t None (entry_of (added q (shown f p h)) (raised f i))) (same_gone h i)
      ∙ (ap (λ (o : Option Entry). cond (is_deleted h i) None o) (named_added h i)
      ∙ (by (is_deleted h i) (entry_of (added p h) i) ∙ ap (option_map (new_entry f)) (sym (found_filter (is_deleted h) (added p h) i)))))
    where
      by : (b : Bool) (o : Option Entry) → cond b None (option_map (new_entry f) o) ≡ option_map (new_entry f) (cond b None o)
      by true o = refl
      by false o = refl

  -- ---- the clauses between

  kept_added : (h : History) (j : ℕ) → f.front < j → j ≤ f.front + f.by → entry_of (added q (shown f p h)) j ≡ entry_of (axioms_from 1 q.clauses) j
  kept_added [] j low high = refl
  kept_added (Solve ∷ h) j low high = kept_added h j low high
  kept_added (Finish id ∷ h) j low high = kept_added h j low high
  kept_added (Delete ids ∷ h) j low high = kept_added h j low high
  kept_added (Lemma id lits hints ∷ h) j low high =
      found_other (added q (shown f p h)) _ j (raised_apart f id j low high) ∙ kept_added h j low high
  kept_added (Block id lits ∷ h) j low high =
      found_other (added q (shown f p h)) _ j (raised_apart f id j low high) ∙ kept_added h j low high
  kept_added (Retire id ∷ h) j low high =
      found_other (added q (shown f p h)) _ j (raised_apart f id j low high) ∙ kept_added h j low high

  kept_stands : (h : History) (j : ℕ) → f.front < j → j ≤ f.front + f.by → is_deleted (shown f p h) j ≡ false
  kept_stands [] j low high = refl
  kept_stands (Solve ∷ h) j low high = kept_stands h j low high
  kept_stands (Finish id ∷ h) j low high = kept_stands h j low high
  kept_stands (Lemma id lits hints ∷ h) j low high = kept_stands h j low high
  kept_stands (Block id lits ∷ h) j low high = kept_stands h j low high
  kept_stands (Retire id ∷ h) j low high = kept_stands h j low high
  kept_stands (Delete ids ∷ h) j low high = ap (λ t. t || is_deleted (shown f p h) j) (no_names f j ids low high) ∙ kept_stands h j low high

  pub kept : (h : History) (j : ℕ) → f.front < j → j ≤ f.front + f.by → entry_of (live q (shown f p h)) j ≡ entry_of (axioms_from 1 q.clauses) j
  kept h j low high =
      found_filter (is_deleted (shown f p h)) (added q (shown f p h)) j
      ∙ (ap (λ t. cond t None (entry_of (added q (shown f p h)) j)) (kept_stands h j low high) ∙ kept_added h j low high)

  -- ---- hints, deleted ids and the last id

  pub same_hints : (h : History) (ids : List ℕ) → clauses_of (live q (shown f p h)) (map (raised f) ids) ≡ clauses_of (live p h) ids
  same_hints h [] = refl
  same_hints h (i ∷ ids) =
      ap (λ (o : Option Entry). cons_option (option_map (λ (e : Entry). e.literals) o) (clauses_of (live q (shown f p h)) (map (raised f) ids))) (named h i)
      ∙ (ap (λ (cs : List Clause). cons_option (option_map (λ (e : Entry). e.literals) (option_map (new_entry f) (entry_of (live p h) i))) cs) (same_hints h ids)
      ∙ by (entry_of (live p h) i))
    where
      by : (o : Option Entry) → cons_option (option_map (λ (e : Entry). e.literals) (option_map (new_entry f) o)) (clauses_of (live p h) ids) ≡
          cons_option (option_map (λ (e : Entry). e.literals) o) (clauses_of (live p h) ids)
      by None = refl
      by (Some e) = refl

  pub hints_stand : (h : History) (ids : List ℕ) → list_all (λ i. is_some (entry_of (live p h) i)) ids ≡ true →
      list_all (λ i. is_some (entry_of (live q (shown f p h)) i)) (map (raised f) ids) ≡ true
  hints_stand h ids all = same ids ∙ all
    where
      by : (o : Option Entry) → is_some (option_map (new_entry f) o) ≡ is_some o
      by None = refl
      by (Some e) = refl

      same : (ids : List ℕ) → list_all (λ i. is_some (entry_of (live q (shown f p h)) i)) (map (raised f) ids) ≡ list_all (λ i. is_some (entry_of (live p h) i)) ids
      same [] = refl
      same (i ∷ is) =
          ap (λ t. t && list_all (λ i. is_some (entry_of (live q (shown f p h)) i)) (map (raised f) is)) (ap is_some (named h i) ∙ by (entry_of (live p h) i))
          ∙ ap (λ t. is_some (entry_of (live p h) i) && t) (same is)

  pub deleted_stand : (h : History) (ids : List ℕ) → list_all (λ i. passes is_lemma_or_block (entry_of (live p h) i)) ids ≡ true →
      list_all (λ i. passes is_lemma_or_block (entry_of (live q (shown f p h)) i)) (map (raised f) ids) ≡ true
  deleted_stand h [] all = refl
  deleted_stand h (i ∷ is) all = both (entry_of (live p h) i) refl all (deleted_stand h is)
    where
      turns : (e : Entry) → is_lemma_or_block e ≡ true → is_lemma_or_block (new_entry f e) ≡ true
      turns e is =
          elim (e.origin) as (λ o. is_lemma_or_block (record { id = e.id; origin = o; literals = e.literals }) ≡ true →
          is_lemma_or_block (record { id = raised f e.id; origin = turned o; literals = e.literals }) ≡ true) [
            | Axiom ↦ λ lost. absurd (false≢true lost)
            | Learnt ↦ λ _. refl
            | Blocked ↦ λ _. refl
            | Retired ↦ λ lost. absurd (false≢true lost)
          ] is

      both : (o : Option Entry) → entry_of (live p h) i ≡ o →
          (passes is_lemma_or_block o && list_all (λ i. passes is_lemma_or_block (entry_of (live p h) i)) is) ≡ true →
          (list_all (λ i. passes is_lemma_or_block (entry_of (live p h) i)) is ≡ true →
          list_all (λ i. passes is_lemma_or_block (entry_of (live q (shown f p h)) i)) (map (raised f) is) ≡ true) →
          (passes is_lemma_or_block (entry_of (live q (shown f p h)) (raised f i))
          && list_all (λ i. passes is_lemma_or_block (entry_of (live q (shown f p h)) i)) (map (raised f) is)) ≡ true
      both None found given later = absurd (false≢true given)
      both (Some e) found given later =
          let parts = and_parts (is_lemma_or_block e) (list_all (λ i. passes is_lemma_or_block (entry_of (live p h) i)) is) given in
          and_from _ _ (ap (passes is_lemma_or_block) (named h i ∙ ap (option_map (new_entry f)) found) ∙ turns e parts.0) (later parts.1)

  pub last_front : (h : History) → NoneRefused p h → f.front ≤ last_id p h
  last_front [] right = let at = w.front in omega (arith, at)
  last_front (Solve ∷ h) right = last_front h right.1
  last_front (Finish id ∷ h) right = last_front h right.1
  last_front (Delete ids ∷ h) right = last_front h right.1
  last_front (Lemma id lits hints ∷ h) right =
      let before = last_front h right.1 in
      let next = next_given p h (in_solve (phase_of h)) id (right_from_none p (state_of p h) (Lemma id lits hints) right.0).order in
      omega (arith, before, next)
  last_front (Block id lits ∷ h) right =
      let before = last_front h right.1 in
      let next = next_given p h (in_solve (phase_of h)) id (right_from_none p (state_of p h) (Block id lits) right.0).order in
      omega (arith, before, next)
  last_front (Retire id ∷ h) right =
      let before = last_front h right.1 in
      let next = next_given p h (not (is_between_steps (phase_of h))) id (right_from_none p (state_of p h) (Retire id) right.0).order in
      omega (arith, before, next)

  pub new_last : (h : History) → NoneRefused p h → last_id q (shown f p h) ≡ last_id p h + f.by
  new_last [] right =
      let at = w.front in
      let more = w.by in
      let long = length-append p.clauses w.extra in
      let all : length q.clauses ≡ length (p.clauses ++ w.extra) = ap length w.clauses in
      omega (arith, at, more, long, all)
  new_last (Solve ∷ h) right = new_last h right.1
  new_last (Finish id ∷ h) right = new_last h right.1
  new_last (Delete ids ∷ h) right = new_last h right.1
  new_last (Lemma id lits hints ∷ h) right =
      let before = last_front h right.1 in
      let next = next_given p h (in_solve (phase_of h)) id (right_from_none p (state_of p h) (Lemma id lits hints) right.0).order in
      raised_high f id (omega (arith, before, next))
  new_last (Block id lits ∷ h) right =
      let before = last_front h right.1 in
      let next = next_given p h (in_solve (phase_of h)) id (right_from_none p (state_of p h) (Block id lits) right.0).order in
      raised_high f id (omega (arith, before, next))
  new_last (Retire id ∷ h) right =
      let before = last_front h right.1 in
      let next = next_given p h (not (is_between_steps (phase_of h))) id (right_from_none p (state_of p h) (Retire id) right.0).order in
      raised_high f id (omega (arith, before, next))
