-- What the rules ask of the lines so far, where ids and variables go.
use Rattle.std.proofs.Common.{◌≡◌, ℕ, ◌+◌, ◌≤◌, arith, Bool, true, false, not, cond, List, [], ◌∷◌, ◌++◌, map, length, refl, sym, ap, ◌∙◌, Option, Some, None}
use Rattle.std.specs.Prelude.{option_map}
use Rattle.std.specs.Option.{option_or}
use Rattle.std.specs.List.{cons_option}
use Rattle.std.proofs.lemmas.List.{length-append}
use Rattle.bs_clause.specs.Literal.{Clause}
use Rattle.bs_log.specs.declared.line.Line.TheVariants.{Solve, Lemma, Block, Finish, Retire, Delete}
use Rattle.bs_log.specs.History.{Problem, History, Entry, axioms_from, live, is_deleted, last_id, phase_of, state_of}
use Rattle.bs_log.specs.Refusal.{NoneRefused, entry_of, clauses_of, in_solve, is_between_steps}
use Rattle.bs_log.proofs.Tests.{right_from_none}
use Rattle.bs_log.proofs.Histories.{next_given}
use Rattle.bs_reach.specs.declared.offsets.Shift.{Shift}
use Rattle.bs_reach.specs.Renamed.{new_id, new_clause}
use Rattle.bs_reach.specs.Widened.{IsWidened}
use Rattle.bs_reach.proofs.ShiftLemmas.{IsShift, new_behind}
use Rattle.bs_reach.proofs.EntryLemmas.{new_entry, new_lines, found_filter, found_append, found_moved, same_gone, axioms_left, own_left, live_is, new_own_left}
use Rattle.bs_reach.proofs.AxiomLemmas.{shift_is, clause_named}

pub same_phase : (s : Shift) (h : History) → phase_of (new_lines s h) ≡ phase_of h
same_phase s [] = refl
same_phase s (Solve ∷ h) = refl
same_phase s (Lemma id lits hints ∷ h) = refl
same_phase s (Block id lits ∷ h) = refl
same_phase s (Finish id ∷ h) = refl
same_phase s (Retire id ∷ h) = refl
same_phase s (Delete ids ∷ h) = refl

-- the last id is one of a log, and goes as such
pub record LastGoes (s : Shift) (p q : Problem) (h : History) : Type 0 where
  pub given : s.listed ≤ last_id p h
  pub goes : last_id q (new_lines s h) ≡ last_id p h + s.listed_by

module _ (s : Shift) (p q : Problem) (w : IsWidened s p q) where
  ok : IsShift s
  ok = shift_is s p q w

  -- ---- what an id names

  named_axiom : (h : History) (i : ℕ) →
      entry_of (axioms_left q (new_lines s h)) (new_id s i) ≡ option_map (new_entry s) (entry_of (axioms_left p h) i)
  named_axiom h i =
      found_filter (is_deleted (new_lines s h)) (axioms_from 1 q.clauses) (new_id s i)
      ∙ (ap (λ t. cond t None (entry_of (axioms_from 1 q.clauses) (new_id s i))) (same_gone s h i ok)
      ∙ (ap (λ (o : Option Entry). cond (is_deleted h i) None o) (clause_named s p q i w)
      ∙ (by (is_deleted h i) (entry_of (axioms_from 1 p.clauses) i)
      ∙ ap (option_map (new_entry s)) (sym (found_filter (is_deleted h) (axioms_from 1 p.clauses) i)))))
    where
      by : (b : Bool) (o : Option Entry) → cond b None (option_map (new_entry s) o) ≡ option_map (new_entry s) (cond b None o)
      by true o = refl
      by false o = refl

  named_own : (h : History) (i : ℕ) → entry_of (own_left q (new_lines s h)) (new_id s i) ≡ option_map (new_entry s) (entry_of (own_left p h) i)
  named_own h i =
      ap (λ (es : List Entry). entry_of es (new_id s i)) (new_own_left s p q w.vars_stay w.vars_go h ok) ∙ found_moved s (own_left p h) i ok

  -- an id names the clause that the old one names
  pub named : (h : History) (i : ℕ) → entry_of (live q (new_lines s h)) (new_id s i) ≡ option_map (new_entry s) (entry_of (live p h) i)
  named h i =
      ap (λ (es : List Entry). entry_of es (new_id s i)) (live_is q (new_lines s h))
      ∙ (found_append (axioms_left q (new_lines s h)) (own_left q (new_lines s h)) (new_id s i)
      ∙ (ap (λ (o : Option Entry). option_or o (entry_of (own_left q (new_lines s h)) (new_id s i))) (named_axiom h i)
      ∙ (ap (λ (o : Option Entry). option_or (option_map (new_entry s) (entry_of (axioms_left p h) i)) o) (named_own h i)
      ∙ (by (entry_of (axioms_left p h) i) (entry_of (own_left p h) i)
      ∙ ap (option_map (new_entry s))
      (sym (found_append (axioms_left p h) (own_left p h) i) ∙ ap (λ (es : List Entry). entry_of es i) (sym (live_is p h)))))))
    where
      by : (a b : Option Entry) → option_or (option_map (new_entry s) a) (option_map (new_entry s) b) ≡ option_map (new_entry s) (option_or a b)
      by None b = refl
      by (Some e) b = refl

  pub new_hints : (h : History) (ids : List ℕ) → clauses_of (live q (new_lines s h)) (map (new_id s) ids) ≡ map (new_clause s) (clauses_of (live p h) ids)
  new_hints h [] = refl
  new_hints h (i ∷ ids) =
      ap (λ (o : Option Entry). cons_option (option_map (λ (e : Entry). e.literals) o) (clauses_of (live q (new_lines s h)) (map (new_id s) ids))) (named h i)
      ∙ (ap (λ (cs : List Clause). cons_option (option_map (λ (e : Entry). e.literals) (option_map (new_entry s) (entry_of (live p h) i))) cs) (new_hints h ids)
      ∙ by (entry_of (live p h) i))
    where
      by : (o : Option Entry) →
          cons_option (option_map (λ (e : Entry). e.literals) (option_map (new_entry s) o)) (map (new_clause s) (clauses_of (live p h) ids)) ≡
          map (new_clause s) (cons_option (option_map (λ (e : Entry). e.literals) o) (clauses_of (live p h) ids))
      by None = refl
      by (Some e) = refl

  -- ---- the last id

  pub listed_all : length p.clauses ≡ s.listed
  listed_all =
      let parts : length p.clauses ≡ length (w.head ++ w.tail) = ap length w.narrow in
      let sum = length-append w.head w.tail in
      let is = w.listed_is in
      omega (arith, parts, sum, is)

  pub listed_more : length q.clauses ≡ s.listed + s.listed_by
  listed_more =
      let parts : length q.clauses ≡ length (w.head ++ (w.more ++ (w.tail ++ w.later))) = ap length w.wide in
      let one = length-append w.head (w.more ++ (w.tail ++ w.later)) in
      let two = length-append w.more (w.tail ++ w.later) in
      let three = length-append w.tail w.later in
      let is = w.listed_is in
      let goes = w.listed_goes in
      omega (arith, parts, one, two, three, is, goes)

  next_goes : (h : History) (id : ℕ) → LastGoes s p q h → id ≡ last_id p h + 1 →
      (s.listed ≤ id) × (new_id s id ≡ id + s.listed_by) × (new_id s id ≡ last_id q (new_lines s h) + 1)
  next_goes h id l is =
      let given = l.given in
      let goes = l.goes in
      let new : new_id s id ≡ id + s.listed_by = new_behind s id ok (omega (arith, given, is)) in
      (omega (arith, given, is), new, omega (arith, new, goes, is))

  pub last_goes : (h : History) → NoneRefused p h → LastGoes s p q h
  last_goes [] right = let all = listed_all in let more = listed_more in record { given = omega (arith, all); goes = omega (arith, all, more) }
  last_goes (Solve ∷ h) right = let l = last_goes h right.1 in record { given = l.given; goes = l.goes }
  last_goes (Finish id ∷ h) right = let l = last_goes h right.1 in record { given = l.given; goes = l.goes }
  last_goes (Delete ids ∷ h) right = let l = last_goes h right.1 in record { given = l.given; goes = l.goes }
  last_goes (Lemma id lits hints ∷ h) right =
      let n = next_goes h id (last_goes h right.1) (next_given p h (in_solve (phase_of h)) id (right_from_none p (state_of p h) (Lemma id lits hints) right.0).order) in
      record { given = n.0; goes = n.1 }
  last_goes (Block id lits ∷ h) right =
      let n = next_goes h id (last_goes h right.1) (next_given p h (in_solve (phase_of h)) id (right_from_none p (state_of p h) (Block id lits) right.0).order) in
      record { given = n.0; goes = n.1 }
  last_goes (Retire id ∷ h) right =
      let n = next_goes h id (last_goes h right.1)
      (next_given p h (not (is_between_steps (phase_of h))) id (right_from_none p (state_of p h) (Retire id) right.0).order) in
      record { given = n.0; goes = n.1 }

  -- an id that comes next comes next
  pub next_still : (h : History) (id : ℕ) → NoneRefused p h → id ≡ last_id p h + 1 → new_id s id ≡ last_id q (new_lines s h) + 1
  next_still h id right is = (next_goes h id (last_goes h right) is).2
