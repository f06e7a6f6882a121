-- Which ids and variables the lines of a log have.
use Rattle.std.proofs.Common.{◌≡◌, ℕ, ◌+◌, ◌<◌, ◌≤◌, ◌^◌, arith, Bool, true, not, ◌&&◌, eqb, leb, List, [], ◌∷◌, ◌++◌, length, reverse, refl, sym, ap, subst, Option, Some, None}
use Rattle.std.specs.Prelude.{All, Contains, option_map, is_some}
use Rattle.std.specs.List.{AllByRecursion, list_all, cons_option}
use Rattle.std.proofs.lemmas.Bool.{and_parts, not-true, leb-true, false≢true}
use Rattle.std.proofs.lemmas.List.{reverse-append, reverse-reverse, length-reverse}
use Rattle.std.proofs.lemmas.List.Elements.{All-contains, All-from_recursion, recursion_from_All, All-weaker}
use Rattle.bs_clause.specs.declared.literal.TheConstants.{VARIABLE_LIMIT}
use Rattle.bs_clause.specs.Literal.{Literal, Clause, negation, same_literal}
use Rattle.bs_clause.specs.Range.{IsWithin, HasVariables}
use Rattle.bs_clause.proofs.Literals.{same_literal-true}
use Rattle.bs_log.specs.declared.line.Line.{Line}
use Rattle.bs_log.specs.declared.line.Line.TheVariants.{Solve, Lemma, Block, Finish, Retire, Delete}
use Rattle.bs_log.specs.History.{Problem, History, Entry, axioms_from, added, live, is_deleted, last_id, phase_of, step_of, state_of, activation_of}
use Rattle.bs_log.specs.Lean.{IsResolventOf, LemmasAreLean}
use Rattle.bs_log.specs.Refusal.{NoneRefused, entry_of, clauses_of, passes, is_lemma, is_lemma_or_block, is_block_of, in_solve, is_between_steps}
use Rattle.bs_log.proofs.Elements.{AllByRecursion-find, AllByRecursion-filter}
use Rattle.bs_log.proofs.Histories.{added_ids, in_range, next_given, solve_is_inside}
use Rattle.bs_log.proofs.Tests.{right_from_none}
use Rattle.bs_solve_lemmas.proofs.Clauses.{all_from}
use Rattle.bs_solve_lemmas.proofs.Entries.{found_id, some_entry}
use Rattle.bs_reach.specs.declared.offsets.Shift.{Shift}
use Rattle.bs_reach.specs.Renamed.{IdFits, LiteralFits, HasRoom}
use Rattle.bs_reach.specs.Widened.{LogsHaveRoom}
use Rattle.bs_reach.proofs.ResolventLemmas.{one_of}

pub push_one : {X : Type 0} (P : X → Type 0) (xs : List X) (x : X) → AllByRecursion P xs → P x → AllByRecursion P (xs ++ x ∷ [])
push_one P [] x all h = (h, tt)
push_one P (y ∷ ys) x all h = (all.0, push_one P ys x all.1 h)

pub all_reversed : {X : Type 0} (P : X → Type 0) (xs : List X) → AllByRecursion P xs → AllByRecursion P (reverse xs)
all_reversed P [] all = tt
all_reversed P (x ∷ xs) all =
    subst (AllByRecursion P) (sym (reverse-append (x ∷ []) xs)) (push_one P (reverse xs) x (all_reversed P xs all.1) all.0)

-- ---- variables

abbrev AtMost : ℕ → Literal → Type 0
AtMost n l = l.variable ≤ n

abbrev Below : ℕ → Entry → Type 0
Below n e = All (AtMost n) e.literals

axioms_below : (n v m : ℕ) (cs : List Clause) → v ≤ m → AllByRecursion (HasVariables v) cs → AllByRecursion (Below m) (axioms_from n cs)
axioms_below n v m [] le all = tt
axioms_below n v m (c ∷ cs) le all =
    (All-weaker (IsWithin v) (AtMost m) (λ l w. omega (arith, w.1, le)) c all.0, axioms_below (n + 1) v m cs le all.1)

hints_below : (m : ℕ) (es : List Entry) (ids : List ℕ) → AllByRecursion (Below m) es → AllByRecursion (λ c. All (AtMost m) c) (clauses_of es ids)
hints_below m es [] all = tt
hints_below m es (id ∷ ids) all = by (entry_of es id) refl (hints_below m es ids all)
  where
    by : (o : Option Entry) → entry_of es id ≡ o → AllByRecursion (λ c. All (AtMost m) c) (clauses_of es ids) →
        AllByRecursion (λ c. All (AtMost m) c) (cons_option (option_map (λ (e : Entry). e.literals) o) (clauses_of es ids))
    by None none rest = rest
    by (Some e) found rest = (AllByRecursion-find (Below m) (λ x. eqb x.id id) es e all found, rest)

resolvent_below : (m : ℕ) (lits : Clause) (cs : List Clause) → IsResolventOf lits cs → AllByRecursion (λ c. All (AtMost m) c) cs → All (AtMost m) lits
resolvent_below m lits cs r all =
    all_from (AtMost m) lits (λ l there.
    let c = one_of (λ d. Contains d l) cs ((r.literals l).0 there).0 in
    let low : All (AtMost m) c.one = All-contains (λ d. All (AtMost m) d) cs c.one (All-from_recursion (λ d. All (AtMost m) d) cs all) c.there in
    All-contains (AtMost m) c.one l low c.is)

rest_below : (v m : ℕ) (c : Clause) → v ≤ m → list_all (λ (l : Literal). leb l.variable v) c ≡ true → AllByRecursion (AtMost m) c
rest_below v m [] le all = tt
rest_below v m (l ∷ c) le all =
    let parts = and_parts (leb l.variable v) (list_all (λ (x : Literal). leb x.variable v) c) all in
    (omega (arith, leb-true l.variable v parts.0, le), rest_below v m c le parts.1)

block_below : (p : Problem) (step m : ℕ) (c : Clause) → p.vars + step ≤ m → is_block_of p step c ≡ true → AllByRecursion (AtMost m) c
block_below p step m [] le fits = absurd (false≢true fits)
block_below p step m (first ∷ rest) le fits =
    let parts = and_parts (same_literal first (negation (activation_of p step))) (list_all (λ (l : Literal). leb l.variable p.vars) rest) fits in
    let is : first.variable ≡ p.vars + step = ap (λ (l : Literal). l.variable) (same_literal-true first (negation (activation_of p step)) parts.0) in
    (omega (arith, is, le), rest_below p.vars m rest (omega (arith, le)) parts.1)

module _ (p : Problem) (range : AllByRecursion (HasVariables p.vars) p.clauses) where
  abbrev top : ℕ
  top = p.vars + length p.steps

  solve_inside : (h : History) (t : Bool) → NoneRefused p h → (in_solve (phase_of h) && t) ≡ true → step_of h ≤ length p.steps
  solve_inside h t right order = (in_range p h right).inside (solve_is_inside (phase_of h) (and_parts (in_solve (phase_of h)) t order).0)

  retire_inside : (h : History) (t : Bool) → NoneRefused p h → (not (is_between_steps (phase_of h)) && t) ≡ true → step_of h ≤ length p.steps
  retire_inside h t right order =
      (in_range p h right).inside (not-true (is_between_steps (phase_of h)) (and_parts (not (is_between_steps (phase_of h))) t order).0)

  live_below : (h : History) → AllByRecursion (Below top) (added p h) → AllByRecursion (Below top) (live p h)
  live_below h all = AllByRecursion-filter (Below top) (λ e. not (is_deleted h e.id)) (added p h) all

  added_below : (h : History) → NoneRefused p h → LemmasAreLean p h → AllByRecursion (Below top) (added p h)
  added_below [] right lean = axioms_below 1 p.vars top p.clauses (omega arith) range
  added_below (Solve ∷ h) right lean = added_below h right.1 lean
  added_below (Finish id ∷ h) right lean = added_below h right.1 lean
  added_below (Delete ids ∷ h) right lean = added_below h right.1 lean
  added_below (Lemma id lits hints ∷ h) right lean =
      let so_far : AllByRecursion (Below top) (added p h) = added_below h right.1 lean.2 in
      push_one (Below top) (added p h) _ so_far
      (resolvent_below top lits (clauses_of (live p h) hints) lean.1 (hints_below top (live p h) hints (live_below h so_far)))
  added_below (Block id lits ∷ h) right lean =
      let r = right_from_none p (state_of p h) (Block id lits) right.0 in
      let inside = solve_inside h (eqb id (last_id p h + 1)) right.1 r.order in
      push_one (Below top) (added p h) _ (added_below h right.1 lean)
      (All-from_recursion (AtMost top) lits (block_below p (step_of h) top lits (omega (arith, inside)) r.block))
  added_below (Retire id ∷ h) right lean =
      let r = right_from_none p (state_of p h) (Retire id) right.0 in
      let inside = retire_inside h (eqb id (last_id p h + 1)) right.1 r.order in
      let unit : Clause = negation (activation_of p (step_of h)) ∷ [] in
      push_one (Below top) (added p h) _ (added_below h right.1 lean)
      (All-from_recursion (AtMost top) unit (omega (arith, inside), tt))

  -- ---- ids

  found_low : (h : History) (i : ℕ) → NoneRefused p h → is_some (entry_of (live p h) i) ≡ true → i ≤ last_id p h
  found_low h i right is =
      let e = some_entry (entry_of (live p h) i) is in
      let given : AllByRecursion (λ (x : Entry). x.id ≤ last_id p h) (live p h) =
      AllByRecursion-filter (λ (x : Entry). x.id ≤ last_id p h) (λ x. not (is_deleted h x.id)) (added p h) (added_ids p h right) in
      let low : (e.0).id ≤ last_id p h = AllByRecursion-find (λ (x : Entry). x.id ≤ last_id p h) (λ x. eqb x.id i) (live p h) e.0 given e.1 in
      let same : (e.0).id ≡ i = found_id (live p h) i e.0 e.1 in
      omega (arith, low, same)

  passing_some : (t : Entry → Bool) (o : Option Entry) → passes t o ≡ true → is_some o ≡ true
  passing_some t None is = absurd (false≢true is)
  passing_some t (Some e) is = refl

  all_low : (h : History) (t : Option Entry → Bool) → ((o : Option Entry) → t o ≡ true → is_some o ≡ true) → NoneRefused p h → (ids : List ℕ) →
      list_all (λ i. t (entry_of (live p h) i)) ids ≡ true → AllByRecursion (λ i. i ≤ last_id p h) ids
  all_low h t some right [] all = tt
  all_low h t some right (i ∷ ids) all =
      let parts = and_parts (t (entry_of (live p h) i)) (list_all (λ x. t (entry_of (live p h) x)) ids) all in
      (found_low h i right (some (entry_of (live p h) i) parts.0), all_low h t some right ids parts.1)

  next_id : (h : History) (t : Bool) (id : ℕ) → (t && eqb id (last_id p h + 1)) ≡ true → id ≡ last_id p h + 1
  next_id h t id order = next_given p h t id order

  last_small : (h : History) → NoneRefused p h → last_id p h ≤ length p.clauses + length h
  last_small [] right = omega arith
  last_small (Solve ∷ h) right = let low = last_small h right.1 in omega (arith, low)
  last_small (Finish id ∷ h) right = let low = last_small h right.1 in omega (arith, low)
  last_small (Delete ids ∷ h) right = let low = last_small h right.1 in omega (arith, low)
  last_small (Lemma id lits hints ∷ h) right =
      let low = last_small h right.1 in
      let next = next_id h (in_solve (phase_of h)) id (right_from_none p (state_of p h) (Lemma id lits hints) right.0).order in
      omega (arith, low, next)
  last_small (Block id lits ∷ h) right =
      let low = last_small h right.1 in
      let next = next_id h (in_solve (phase_of h)) id (right_from_none p (state_of p h) (Block id lits) right.0).order in
      omega (arith, low, next)
  last_small (Retire id ∷ h) right =
      let low = last_small h right.1 in
      let next = next_id h (not (is_between_steps (phase_of h))) id (right_from_none p (state_of p h) (Retire id) right.0).order in
      omega (arith, low, next)

module _ (s : Shift) (p : Problem) (range : AllByRecursion (HasVariables p.vars) p.clauses)
    (literals : p.vars + length p.steps + s.vars_by < VARIABLE_LIMIT) where
  weaker_ids : (n : ℕ) (ids : List ℕ) → n + s.listed_by < 2 ^ 64 → AllByRecursion (λ i. i ≤ n) ids → AllByRecursion (IdFits s) ids
  weaker_ids n [] fits all = tt
  weaker_ids n (i ∷ ids) fits all = (let low = all.0 in omega (arith, fits, low), weaker_ids n ids fits all.1)

  ids_fit : (h : History) (ids : List ℕ) → NoneRefused p h → length p.clauses + length h + s.listed_by < 2 ^ 64 →
      AllByRecursion (λ i. i ≤ last_id p h) ids → All (IdFits s) ids
  ids_fit h ids right fits all =
      let low = last_small p range h right in
      All-from_recursion (IdFits s) ids (weaker_ids (last_id p h) ids (omega (arith, fits, low)) all)

  literals_fit : (c : Clause) → All (AtMost (p.vars + length p.steps)) c → All (LiteralFits s) c
  literals_fit c all = All-weaker (AtMost (p.vars + length p.steps)) (LiteralFits s) (λ l low. omega (arith, low, literals)) c all

  next_fits : (h : History) (id : ℕ) → NoneRefused p h → id ≡ last_id p h + 1 → length p.clauses + (length h + 1) + s.listed_by < 2 ^ 64 → IdFits s id
  next_fits h id right next fits = let low = last_small p range h right in omega (arith, fits, low, next)

  line_fits : (h : History) (line : Line) → NoneRefused p (line ∷ h) → LemmasAreLean p (line ∷ h) →
      length p.clauses + (length h + 1) + s.listed_by < 2 ^ 64 → HasRoom s line
  line_fits h Solve right lean fits = tt
  line_fits h (Lemma id lits hints) right lean fits =
      let r = right_from_none p (state_of p h) (Lemma id lits hints) right.0 in
      let below = live_below p range h (added_below p range h right.1 lean.2) in (
        next_fits h id right.1 (next_id p range h (in_solve (phase_of h)) id r.order) fits,
        literals_fit lits
            (resolvent_below (p.vars + length p.steps) lits (clauses_of (live p h) hints) lean.1 (hints_below (p.vars + length p.steps) (live p h) hints below)),
        ids_fit h hints right.1 (omega (arith, fits)) (all_low p range h is_some (λ o is. is) right.1 hints r.names),
      )
  line_fits h (Block id lits) right lean fits =
      let r = right_from_none p (state_of p h) (Block id lits) right.0 in
      let inside = solve_inside p range h (eqb id (last_id p h + 1)) right.1 r.order in (
        next_fits h id right.1 (next_id p range h (in_solve (phase_of h)) id r.order) fits,
        literals_fit lits
            (All-from_recursion (AtMost (p.vars + length p.steps)) lits
            (block_below p (step_of h) (p.vars + length p.steps) lits (omega (arith, inside)) r.block)),
      )
  line_fits h (Finish id) right lean fits =
      let r = right_from_none p (state_of p h) (Finish id) right.0 in
      let low = found_low p range h id right.1 (passing_some p range is_lemma (entry_of (live p h) id) r.names) in
      let last = last_small p range h right.1 in
      omega (arith, fits, low, last)
  line_fits h (Retire id) right lean fits =
      let r = right_from_none p (state_of p h) (Retire id) right.0 in
      next_fits h id right.1 (next_id p range h (not (is_between_steps (phase_of h))) id r.order) fits
  line_fits h (Delete ids) right lean fits =
      let r = right_from_none p (state_of p h) (Delete ids) right.0 in
      ids_fit h ids right.1 (omega (arith, fits))
      (all_low p range h (passes is_lemma_or_block) (passing_some p range is_lemma_or_block) right.1 ids r.names)

  lean_before : (h : History) (line : Line) → LemmasAreLean p (line ∷ h) → LemmasAreLean p h
  lean_before h Solve lean = lean
  lean_before h (Lemma id lits hints) lean = lean.2
  lean_before h (Block id lits) lean = lean
  lean_before h (Finish id) lean = lean
  lean_before h (Retire id) lean = lean
  lean_before h (Delete ids) lean = lean

  lines_fit : (h : History) → NoneRefused p h → LemmasAreLean p h → length p.clauses + length h + s.listed_by < 2 ^ 64 → AllByRecursion (HasRoom s) h
  lines_fit [] right lean fits = tt
  lines_fit (line ∷ h) right lean fits =
      (line_fits h line right lean (omega (arith, fits)), lines_fit h right.1 (lean_before h line lean) (omega (arith, fits)))

pub logs_have_room : LogsHaveRoom
logs_have_room s p q log w ok lean ids literals =
    let range : AllByRecursion (HasVariables p.vars) p.clauses = recursion_from_All (HasVariables p.vars) p.clauses w.range in
    let long : length (reverse log) ≡ length log = length-reverse log in
    let fits : AllByRecursion (HasRoom s) (reverse log) = lines_fit s p range literals (reverse log) ok.lines lean.lemmas (omega (arith, ids, long)) in
    All-from_recursion (HasRoom s) log
    (subst (AllByRecursion (HasRoom s)) (reverse-reverse log) (all_reversed (HasRoom s) (reverse log) fits))
