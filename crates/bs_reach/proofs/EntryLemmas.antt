-- What the lines of a log add, and what stands, where ids and variables go.
use Rattle.std.proofs.Common.{◌≡◌, ℕ, ◌+◌, ◌<◌, ◌≤◌, arith, Bool, true, false, not, ◌||◌, cond, eqb, List, [], ◌∷◌, ◌++◌, map, refl, sym, ap, ◌∙◌, Option, Some, None}
use Rattle.std.specs.Prelude.{option_map}
use Rattle.std.specs.Option.{option_or}
use Rattle.std.specs.List.{list_any, filter}
use Rattle.std.proofs.lemmas.Bool.{eqb-true}
use Rattle.std.proofs.lemmas.List.{append-nil, append_assoc, map_push}
use Rattle.std.proofs.lemmas.List.Elements.{filter-append}
use Rattle.bs_clause.specs.Literal.{Literal, negation}
use Rattle.bs_clause.proofs.Literals.{literal_from_parts}
use Rattle.bs_log.specs.declared.line.Line.TheVariants.{Solve, Lemma, Block, Finish, Retire, Delete}
use Rattle.bs_log.specs.declared.origin.Origin.TheVariants.{Learnt, Blocked, Retired}
use Rattle.bs_log.specs.History.{Problem, History, Entry, axioms_from, step_of, activation_of, added, live, is_deleted}
use Rattle.bs_log.specs.Refusal.{entry_of}
use Rattle.bs_log.proofs.Laws.{step_of-positive}
use Rattle.bs_reach.specs.declared.offsets.Shift.{Shift}
use Rattle.bs_reach.specs.Renamed.{new_id, new_variable, new_literal, new_clause, new_line}
use Rattle.bs_reach.proofs.ShiftLemmas.{IsShift, same_id, variable_climbs}

abbrev pub new_entry : Shift → Entry → Entry
new_entry s e = record { id = new_id s e.id; origin = e.origin; literals = new_clause s e.literals }

-- the lines with their new ids and variables
abbrev pub new_lines : Shift → History → History
new_lines s h = map (new_line s) h

-- ---- what is found

pub found_filter : (gone : ℕ → Bool) (es : List Entry) (i : ℕ) → entry_of (filter (λ e. not (gone e.id)) es) i ≡ cond (gone i) None (entry_of es i)
found_filter gone [] i = by (gone i)
  where
    by : (b : Bool) → None ≡ cond {A = Option Entry} b None None
    by true = refl
    by false = refl
found_filter gone (e ∷ es) i = by (gone e.id) refl (eqb e.id i) refl (found_filter gone es i)
  where
    here : (b : Bool) → gone e.id ≡ b → eqb e.id i ≡ true → gone i ≡ b
    here b is same = ap gone (sym (eqb-true e.id i same)) ∙ is

    by : (g : Bool) → gone e.id ≡ g → (b : Bool) → eqb e.id i ≡ b → entry_of (filter (λ x. not (gone x.id)) es) i ≡ cond (gone i) None (entry_of es i) →
        entry_of (cond (not g) (e ∷ (filter (λ x. not (gone x.id)) es)) (filter (λ x. not (gone x.id)) es)) i ≡ cond (gone i) None (cond b (Some e) (entry_of es i))
    by true is true same later =
        later ∙ (ap (λ t. cond t None (entry_of es i)) (here true is same) ∙ sym (ap (λ t. cond t None (Some e)) (here true is same)))
    by true is false other later = later
    by false is true same later = ap (λ t. cond t (Some e) (entry_of (filter (λ x. not (gone x.id)) es) i)) same ∙ sym (ap (λ t. cond t None (Some e)) (here false is same))
    by false is false other later = ap (λ t. cond t (Some e) (entry_of (filter (λ x. not (gone x.id)) es) i)) other ∙ later

pub found_append : (xs ys : List Entry) (i : ℕ) → entry_of (xs ++ ys) i ≡ option_or (entry_of xs i) (entry_of ys i)
found_append [] ys i = refl
found_append (x ∷ xs) ys i = by (eqb x.id i) (found_append xs ys i)
  where
    by : (b : Bool) → entry_of (xs ++ ys) i ≡ option_or (entry_of xs i) (entry_of ys i) →
        cond b (Some x) (entry_of (xs ++ ys) i) ≡ option_or (cond b (Some x) (entry_of xs i)) (entry_of ys i)
    by true later = refl
    by false later = later

pub found_moved : (s : Shift) (es : List Entry) (i : ℕ) → IsShift s → entry_of (map (new_entry s) es) (new_id s i) ≡ option_map (new_entry s) (entry_of es i)
found_moved s [] i ok = refl
found_moved s (e ∷ es) i ok =
    ap (λ t. cond t (Some (new_entry s e)) (entry_of (map (new_entry s) es) (new_id s i))) (same_id s e.id i ok)
    ∙ by (eqb e.id i) (found_moved s es i ok)
  where
    by : (b : Bool) → entry_of (map (new_entry s) es) (new_id s i) ≡ option_map (new_entry s) (entry_of es i) →
        cond b (Some (new_entry s e)) (entry_of (map (new_entry s) es) (new_id s i)) ≡ option_map (new_entry s) (cond b (Some e) (entry_of es i))
    by true later = refl
    by false later = later

pub filter_moved : {X Y : Type 0} (f : X → Y) (t : X → Bool) (u : Y → Bool) → ((x : X) → u (f x) ≡ t x) → (xs : List X) →
    filter u (map f xs) ≡ map f (filter t xs)
filter_moved f t u same [] = refl
filter_moved {X} {Y} f t u same (x ∷ xs) =
    ap (λ b. cond b (f x ∷ filter u (map f xs)) (filter u (map f xs))) (same x)
    ∙ (ap (λ (r : List Y). cond (t x) (f x ∷ r) r) (filter_moved f t u same xs) ∙ by (t x))
  where
    by : (b : Bool) → cond b (f x ∷ map f (filter t xs)) (map f (filter t xs)) ≡ map f (cond b (x ∷ filter t xs) (filter t xs))
    by true = refl
    by false = refl

-- ---- what lines add

-- what the lines add to the clauses
abbrev pub own : Problem → History → List Entry
own p [] = []
own p (Lemma id lits hints ∷ h) = own p h ++ record { id = id; origin = Learnt; literals = lits } ∷ []
own p (Block id lits ∷ h) = own p h ++ record { id = id; origin = Blocked; literals = lits } ∷ []
own p (Retire id ∷ h) = own p h ++ record { id = id; origin = Retired; literals = negation (activation_of p (step_of h)) ∷ [] } ∷ []
own p (line ∷ h) = own p h

one_more : (p : Problem) (h : History) (e : Entry) → added p h ≡ axioms_from 1 p.clauses ++ own p h →
    added p h ++ e ∷ [] ≡ axioms_from 1 p.clauses ++ (own p h ++ e ∷ [])
one_more p h e so_far = ap (λ (es : List Entry). es ++ e ∷ []) so_far ∙ append_assoc (axioms_from 1 p.clauses) (own p h) (e ∷ [])

pub added_is : (p : Problem) (h : History) → added p h ≡ axioms_from 1 p.clauses ++ own p h
added_is p [] = sym (append-nil (axioms_from 1 p.clauses))
added_is p (Solve ∷ h) = added_is p h
added_is p (Lemma id lits hints ∷ h) = one_more p h _ (added_is p h)
added_is p (Block id lits ∷ h) = one_more p h _ (added_is p h)
added_is p (Finish id ∷ h) = added_is p h
added_is p (Retire id ∷ h) = one_more p h _ (added_is p h)
added_is p (Delete ids ∷ h) = added_is p h

pub same_step : (s : Shift) (h : History) → step_of (new_lines s h) ≡ step_of h
same_step s [] = refl
same_step s (Solve ∷ h) = same_step s h
same_step s (Lemma id lits hints ∷ h) = same_step s h
same_step s (Block id lits ∷ h) = same_step s h
same_step s (Finish id ∷ h) = same_step s h
same_step s (Retire id ∷ h) = ap (λ n. n + 1) (same_step s h)
same_step s (Delete ids ∷ h) = same_step s h

pub same_gone : (s : Shift) (h : History) (i : ℕ) → IsShift s → is_deleted (new_lines s h) (new_id s i) ≡ is_deleted h i
same_gone s [] i ok = refl
same_gone s (Solve ∷ h) i ok = same_gone s h i ok
same_gone s (Lemma id lits hints ∷ h) i ok = same_gone s h i ok
same_gone s (Block id lits ∷ h) i ok = same_gone s h i ok
same_gone s (Finish id ∷ h) i ok = same_gone s h i ok
same_gone s (Retire id ∷ h) i ok = same_gone s h i ok
same_gone s (Delete ids ∷ h) i ok =
    ap (λ t. t || is_deleted (new_lines s h) (new_id s i)) (named ids) ∙ ap (λ t. list_any (λ d. eqb i d) ids || t) (same_gone s h i ok)
  where
    named : (ds : List ℕ) → list_any (λ d. eqb (new_id s i) d) (map (new_id s) ds) ≡ list_any (λ d. eqb i d) ds
    named [] = refl
    named (d ∷ ds) =
        ap (λ t. t || list_any (λ x. eqb (new_id s i) x) (map (new_id s) ds)) (same_id s i d ok) ∙ ap (λ t. eqb i d || t) (named ds)

-- ---- what stands

abbrev pub stands : History → Entry → Bool
stands h e = not (is_deleted h e.id)

abbrev pub axioms_left : Problem → History → List Entry
axioms_left p h = filter (stands h) (axioms_from 1 p.clauses)

abbrev pub own_left : Problem → History → List Entry
own_left p h = filter (stands h) (own p h)

pub live_is : (p : Problem) (h : History) → live p h ≡ axioms_left p h ++ own_left p h
live_is p h = ap (filter (stands h)) (added_is p h) ∙ filter-append (stands h) (axioms_from 1 p.clauses) (own p h)

module _ (s : Shift) (p q : Problem) (stay : s.vars ≡ p.vars) (go : q.vars ≡ p.vars + s.vars_by) where
  pub new_activation : (n : ℕ) → 1 ≤ n → activation_of q n ≡ new_literal s (activation_of p n)
  new_activation n low =
      let above : s.vars < p.vars + n = omega (arith, stay, low) in
      let climbs : new_variable s (p.vars + n) ≡ p.vars + n + s.vars_by = variable_climbs s (p.vars + n) above in
      literal_from_parts (activation_of q n) (new_literal s (activation_of p n)) (omega (arith, climbs, go)) refl

  new_retired : (h : History) → negation (activation_of q (step_of (new_lines s h))) ≡ new_literal s (negation (activation_of p (step_of h)))
  new_retired h = ap (λ n. negation (activation_of q n)) (same_step s h) ∙ ap negation (new_activation (step_of h) (step_of-positive h))

  pub new_own : (h : History) → own q (new_lines s h) ≡ map (new_entry s) (own p h)
  new_own [] = refl
  new_own (Solve ∷ h) = new_own h
  new_own (Lemma id lits hints ∷ h) =
      let e : Entry = record { id = id; origin = Learnt; literals = lits } in
      ap (λ (es : List Entry). es ++ new_entry s e ∷ []) (new_own h) ∙ sym (map_push (new_entry s) (own p h) e)
  new_own (Block id lits ∷ h) =
      let e : Entry = record { id = id; origin = Blocked; literals = lits } in
      ap (λ (es : List Entry). es ++ new_entry s e ∷ []) (new_own h) ∙ sym (map_push (new_entry s) (own p h) e)
  new_own (Finish id ∷ h) = new_own h
  new_own (Retire id ∷ h) =
      let e : Entry = record { id = id; origin = Retired; literals = negation (activation_of p (step_of h)) ∷ [] } in
      ap (λ (l : Literal). own q (new_lines s h) ++ record { id = new_id s id; origin = Retired; literals = l ∷ [] } ∷ []) (new_retired h)
      ∙ (ap (λ (es : List Entry). es ++ new_entry s e ∷ []) (new_own h) ∙ sym (map_push (new_entry s) (own p h) e))
  new_own (Delete ids ∷ h) = new_own h

  pub new_own_left : (h : History) → IsShift s → own_left q (new_lines s h) ≡ map (new_entry s) (own_left p h)
  new_own_left h ok =
      ap (filter (stands (new_lines s h))) (new_own h)
      ∙ filter_moved (new_entry s) (stands h) (stands (new_lines s h)) (λ e. ap not (same_gone s h e.id ok)) (own p h)
