-- A search from its first propagation to its end.
use Rattle.std.proofs.Common.{◌≡◌, ◌≢◌, ℕ, zero, suc, ◌+◌, ◌-◌, ◌<◌, ◌≤◌, ◌^◌, arith, Bool, true, false, not, List, [], ◌∷◌, ◌++◌, map, length, take}
use Rattle.std.proofs.Common.{drop, get_or, refl, sym, ap, subst, ◌∙◌, inl, inr, ◌⊎◌, Option, Some, None, eqb}
use Rattle.std.specs.Prelude.{All, Contains, slice_get, unwrap_or, AllPairs}
use Rattle.std.specs.Bool.{beq}
use Rattle.std.specs.List.{AllByRecursion, IsDistinct, list_any}
use Rattle.std.proofs.lemmas.Bool.{or_cases, eq-eqb, eqb-true, ne_eqb, cases_Bool, false≢true, or_left, or_right}
use Rattle.std.proofs.lemmas.List.{length-take, get_or-map, take_all, take-append-le, take-append-drop, length_push, length-map, length-take-le}
use Rattle.std.proofs.lemmas.List.Elements.{All-push, All-contains}
use Rattle.std.proofs.lemmas.Option.{slice_get-get_or}
use Rattle.std.specs.Cmp.{nat_eq_equiv}
use Rattle.std.proofs.lemmas.Map.Keys.{IsDistinct-from_apart}
use Rattle.std.proofs.lemmas.Map.Made.{length-le_from_is_member}
use Rattle.bs_clause.specs.Literal.{Literal, Clause, negation, has_literal, literal_value, Satisfies}
use Rattle.bs_clause.specs.UnitRun.{IsUnitRun}
use Rattle.bs_clause.specs.Range.{IsWithin, HasVariables}
use Rattle.bs_log.specs.declared.line.Line.{Line}
use Rattle.bs_log.specs.declared.line.Line.TheVariants.{Solve, Lemma, Block, Finish, Retire, Delete}
use Rattle.bs_log.specs.History.{phase_of}
use Rattle.bs_log.specs.Refusal.{has_distinct_variables, in_solve, denies}
use Rattle.bs_log.specs.Steps.{is_lemma_line}
use Rattle.bs_solve_lemmas.specs.Place.{LoggedPlace}
use Rattle.bs_watch.specs.Trail.{IsTrueOn, IsFalseOn, IsOpenOn, IsConflict, IsQuiet}
use Rattle.bs_solve_lemmas.specs.Bound.{number}
use Rattle.bs_solve_lemmas.specs.Places.{LoggedTrail, logged_literals, AreWarranted, IsLoggedUnassigned}
use Rattle.bs_solve_lemmas.specs.Grown.{LoggedGrows}
use Rattle.bs_solve_lemmas.specs.Learning.{digits}
use Rattle.bs_solve_lemmas.specs.ProofLog.{ProofLog, standing}
use Rattle.bs_solve_lemmas.specs.Search.{assumed, assumption_places, HasLemma, HasLearnt, HasRefuted}
use Rattle.bs_solve_lemmas.specs.Values.{positive, AreAssigned, HasValues, value_of, IsSolution}
use Rattle.bs_solve_lemmas.specs.Ending.{is_open_lemma, HasLemmas, SomeLemmas, IsSpent, IsFound}
use Rattle.bs_solve_lemmas.specs.Round.{InSearch}
use Rattle.bs_watch.proofs.Gets.{none_is_not_some, Contains_from_get, get_map_cases, get_within}
use Rattle.bs_clause.proofs.Literals.{has-from_Contains, Contains-from_has}
use Rattle.bs_solve_lemmas.proofs.Quiet.{unit_runs_are_on_quiet_trails}
use Rattle.bs_solve_lemmas.proofs.Numbers.{number_bounded}
use Rattle.bs_solve_lemmas.proofs.Places.{sound_push, sound_grows}
use Rattle.bs_solve_lemmas.proofs.Clauses.{nothing_in, cons_contains, contains_first, contains_cases, all_from, distinct_parts}
use Rattle.bs_solve_lemmas.proofs.Backjumps.{consistent, growing_lowers_nothing}
use Rattle.bs_solve_lemmas.proofs.Fronts.{true_at_end}

-- ---- the assumptions on the trail

pub literals_assumed : (a : Clause) → logged_literals (assumption_places a) ≡ a
literals_assumed [] = refl
literals_assumed (l ∷ a) = ap (λ r. l ∷ r) (literals_assumed a)

pub take_assumed : (k : ℕ) (a : Clause) → take k (assumption_places a) ≡ assumption_places (take k a)
take_assumed zero a = refl
take_assumed (suc k) [] = refl
take_assumed (suc k) (l ∷ a) = ap (λ r. record { literal = l; implied = false } ∷ r) (take_assumed k a)

-- a later literal of distinct variables is open before
pub open_ahead : (a : Clause) (i : ℕ) (l : Literal) → has_distinct_variables a ≡ true → slice_get a i ≡ Some l → IsOpenOn (take i a) l
open_ahead a i l d at = ((λ t. apart a i l d at l t refl), (λ f. apart a i l d at (negation l) f refl))
  where
    apart : (xs : Clause) (j : ℕ) (x : Literal) → has_distinct_variables xs ≡ true → slice_get xs j ≡ Some x → (m : Literal) → Contains (take j xs) m →
        m.variable ≢ x.variable
    apart [] j x d at m there = absurd (none_is_not_some x at)
    apart (y ∷ ys) zero x d at m there = absurd (nothing_in m there)
    apart (y ∷ ys) (suc j) x d at m there = elim (contains_cases y (take j ys) m there) [
      | inl same ↦ λ e. (distinct_parts y ys d).0 x (Contains_from_get ys j x at) (sym (ap (λ (z : Literal). z.variable) same ∙ e))
      | inr later ↦ apart ys j x (distinct_parts y ys d).1 at m later
    ]

pub assumed_are_sound : (clauses : List Clause) (base : ℕ) (a : Clause) → has_distinct_variables a ≡ true → length a ≤ base →
    AreWarranted clauses base a (assumption_places a)
assumed_are_sound clauses base a d low = record {
  placed = λ k p e.
      let (l, at, is) = get_map_cases (λ (x : Literal). record { literal = x; implied = false }) a k p e in
      let same_literal : p.literal ≡ l = ap (λ (q : LoggedPlace). q.literal) (sym is) in
      let none : p.implied ≡ false = ap (λ (q : LoggedPlace). q.implied) (sym is) in
      let front : logged_literals (take k (assumption_places a)) ≡ take k a = ap logged_literals (take_assumed k a) ∙ literals_assumed (take k a) in
      let within = get_within a k l at in
      let length_k : length (take k (assumption_places a)) ≡ k = ap length (take_assumed k a) ∙
      length-map (take k a) (λ (x : Literal). record { literal = x; implied = false }) ∙ length-take-le k a (omega (arith, within)) in
      record {
        unassigned = subst (λ xs. IsOpenOn xs p.literal) (sym front) (subst (IsOpenOn (take k a)) (sym same_literal) (open_ahead a k l d at));
        implied = λ is. absurd (false≢true (sym none ∙ is));
        assumed = λ _ _. subst (Contains a) (sym same_literal) (Contains_from_get a k l at);
        quiet = λ _ above. absurd (omega (arith, above, length_k, within, low));
      };
}

-- ---- longer trails

-- what stood on the front is true still
pub given_after : (base : ℕ) (old new : List LoggedPlace) (a : Clause) → take base new ≡ take base old → All (IsTrueOn (logged_literals (take base old))) a →
    All (IsTrueOn (logged_literals (take base new))) a
given_after base old new a same given = subst (λ ps. All (IsTrueOn (logged_literals ps)) a) (sym same) given

pub front_after : (clauses : List Clause) (base : ℕ) (old new : List LoggedPlace) → base ≤ length old → LoggedGrows clauses old new → take base new ≡ take base old
front_after clauses base old new low g =
    let parts : old ++ drop (length old) new ≡ new = ap (λ xs. xs ++ drop (length old) new) (sym g.front) ∙ take-append-drop (length old) new in
    ap (take base) (sym parts) ∙ take-append-le base old (drop (length old) new) low

pub number_after : (clauses : List Clause) (n base : ℕ) (old new : List LoggedPlace) → base ≤ length old → LoggedGrows clauses old new →
    number n (drop base (digits old)) ≤ number n (drop base (digits new))
number_after clauses n base old new low g =
    let parts : old ++ drop (length old) new ≡ new = ap (λ xs. xs ++ drop (length old) new) (sym g.front) ∙ take-append-drop (length old) new in
    subst (λ ps. number n (drop base (digits old)) ≤ number n (drop base (digits ps))) parts (growing_lowers_nothing n base old (drop (length old) new) low)

-- ---- values

-- the two literals of an assigned variable
pub value_true : (trail : List Literal) (l : Literal) → ((m : Literal) → IsTrueOn trail m → ¬ IsFalseOn trail m) → IsTrueOn trail l →
    beq (has_literal trail (positive l.variable)) l.positive ≡ true
value_true trail l consistent t = by l.positive refl
  where
    is_positive : l.positive ≡ true → positive l.variable ≡ l
    is_positive e = λ i. record { variable = l.variable; positive = sym e i }

    is_negative : l.positive ≡ false → negation (positive l.variable) ≡ l
    is_negative e = λ i. record { variable = l.variable; positive = sym e i }

    by : (b : Bool) → l.positive ≡ b → beq (has_literal trail (positive l.variable)) b ≡ true
    by true e = ap (λ x. beq x true) (has-from_Contains trail (positive l.variable) (subst (IsTrueOn trail) (sym (is_positive e)) t))
    by false e = elim (cases_Bool (has_literal trail (positive l.variable))) [
      | inr none ↦ ap (λ x. beq x false) none
      | inl some ↦ absurd (consistent (positive l.variable) (Contains-from_has trail (positive l.variable) some)
          (subst (IsTrueOn trail) (sym (is_negative e)) t))
    ]

-- one of the two literals of the variable is true
assigned_cases : (trail : List Literal) (vars : ℕ) (l : Literal) → AreAssigned trail vars → 1 ≤ l.variable → l.variable ≤ vars →
    IsTrueOn trail l ⊎ IsFalseOn trail l
assigned_cases trail vars l all low high = by l.positive refl (all l.variable low high)
  where
    by : (b : Bool) → l.positive ≡ b → (has_literal trail (positive l.variable) ≡ true) ⊎ (has_literal trail (negation (positive l.variable)) ≡ true) →
        IsTrueOn trail l ⊎ IsFalseOn trail l
    by true e (inl t) = inl (subst (IsTrueOn trail)
        (let is : positive l.variable ≡ l = λ i. record { variable = l.variable; positive = sym e i } in is) (Contains-from_has trail (positive l.variable) t))
    by true e (inr f) = inr (subst (IsTrueOn trail)
        (let is : negation (positive l.variable) ≡ negation l = λ i. record { variable = l.variable; positive = not (sym e i) } in is)
        (Contains-from_has trail (negation (positive l.variable)) f))
    by false e (inl t) = inr (subst (IsTrueOn trail)
        (let is : positive l.variable ≡ negation l = λ i. record { variable = l.variable; positive = not (sym e i) } in is)
        (Contains-from_has trail (positive l.variable) t))
    by false e (inr f) = inl (subst (IsTrueOn trail)
        (let is : negation (positive l.variable) ≡ l = λ i. record { variable = l.variable; positive = sym e i } in is)
        (Contains-from_has trail (negation (positive l.variable)) f))

-- a clause that is not false has a true literal
true_literal : (trail : List Literal) (vars : ℕ) (c : Clause) → AreAssigned trail vars →
    ((l : Literal) → Contains c l → (1 ≤ l.variable) × (l.variable ≤ vars)) → (¬ IsConflict trail c) →
    (l : Literal) × Contains c l × IsTrueOn trail l
true_literal trail vars [] all range quiet = absurd (quiet (λ k d h. absurd (omega (arith, h))))
true_literal trail vars (x ∷ c) all range quiet = elim (assigned_cases trail vars x all (range x (contains_first x c)).0 (range x (contains_first x c)).1) [
  | inl t ↦ (x, contains_first x c, t)
  | inr f ↦
      let rest = true_literal trail vars c all (λ l there. range l (cons_contains x c l there))
      (λ conflict. quiet (all_from (IsFalseOn trail) (x ∷ c) (λ m in_xc. elim (contains_cases x c m in_xc) [
        | inl same ↦ subst (IsFalseOn trail) same f
        | inr later ↦ All-contains (IsFalseOn trail) c m conflict later
      ]))) in
      (rest.0, cons_contains x c rest.0 rest.1, rest.2)
]

meets_from : (v : ℕ → Bool) (c : Clause) (l : Literal) → Contains c l → literal_value v l ≡ true → list_any (literal_value v) c ≡ true
meets_from v [] l there t = absurd (nothing_in l there)
meets_from v (x ∷ c) l there t = elim (contains_cases x c l there) [
  | inl same ↦ or_left (literal_value v x) (list_any (literal_value v) c) (ap (literal_value v) same ∙ t)
  | inr later ↦ or_right (literal_value v x) (list_any (literal_value v) c) (meets_from v c l later t)
]

pub solution : (trail : List Literal) (vars : ℕ) (clauses : List Clause) (a : Clause) (values : List (Option Bool)) → IsQuiet trail clauses →
    AreAssigned trail vars →
    ((m : Literal) → IsTrueOn trail m → ¬ IsFalseOn trail m) →
    ((c : Clause) → Contains clauses c → (l : Literal) → Contains c l → (1 ≤ l.variable) × (l.variable ≤ vars)) →
    ((l : Literal) → Contains a l → (1 ≤ l.variable) × (l.variable ≤ vars)) →
    All (IsTrueOn trail) a → HasValues trail vars values → IsSolution vars clauses a values
solution trail vars clauses a values quiet all consistent range range_a given has = record {
  length_is = has.length_is;
  total = λ v low high.
      let is = has.given v low high in
      slice_get-get_or values (v - 1) None (omega (arith, low, high, has.length_is)) ∙ ap Some (is ∙ ap (λ o. Some (unwrap_or o false)) (sym is));
  clauses_met = all_from (Satisfies (value_of values)) clauses (λ c there.
      let t = true_literal trail vars c all (range c there) (All-contains (λ x. ¬ IsConflict trail x) clauses c quiet.no_conflict there) in
      meets_from (value_of values) c t.0 t.1 (value_is t.0 (range c there t.0 t.1) t.2));
  assumptions_met = all_from (λ l. literal_value (value_of values) l ≡ true) a
      (λ l there. value_is l (range_a l there) (All-contains (IsTrueOn trail) a l given there));
}
  where
    value_is : (l : Literal) → (1 ≤ l.variable) × (l.variable ≤ vars) → IsTrueOn trail l → literal_value (value_of values) l ≡ true
    value_is l range t = ap (λ o. beq (unwrap_or o false) l.positive) (has.given l.variable range.0 range.1) ∙ value_true trail l consistent t

-- ---- what was logged

pub no_lemmas : (b : ProofLog) → HasLemmas b b 0
no_lemmas b = record { lines = []; history = refl; problem = refl; same_step = refl; length_is = refl; open_yet = tt }

pub one_more : (old middle new : ProofLog) (count id : ℕ) (lemma : Clause) → HasLemmas old middle count → HasLemma middle new id lemma →
    denies (assumed middle) lemma ≡ false → HasLemmas old new (count + 1)
one_more old middle new count id lemma l h is_open = record {
  lines = Lemma id lemma h.hints ∷ l.lines;
  history = ap (λ (b : ProofLog). b.history) h.proof ∙ ap (λ hs. Lemma id lemma h.hints ∷ hs) l.history;
  problem = ap (λ (b : ProofLog). b.problem) h.proof ∙ l.problem;
  same_step = ap assumed h.proof ∙ l.same_step;
  length_is = omega (arith, l.length_is);
  open_yet = (ap not (ap (λ a. denies a lemma) (sym l.same_step) ∙ is_open), l.open_yet);
}

pub open_are_lemmas : (a : Clause) (lines : List Line) → AllByRecursion (λ line. is_open_lemma a line ≡ true) lines →
    AllByRecursion (λ line. is_lemma_line line ≡ true) lines
open_are_lemmas a [] h = tt
open_are_lemmas a (Lemma id lits hints ∷ lines) h = (refl, open_are_lemmas a lines h.1)
open_are_lemmas a (Solve ∷ lines) h = absurd (false≢true h.0)
open_are_lemmas a (Block id lits ∷ lines) h = absurd (false≢true h.0)
open_are_lemmas a (Finish id ∷ lines) h = absurd (false≢true h.0)
open_are_lemmas a (Retire id ∷ lines) h = absurd (false≢true h.0)
open_are_lemmas a (Delete ids ∷ lines) h = absurd (false≢true h.0)

pub some_lemmas : (old new : ProofLog) (count : ℕ) → HasLemmas old new count → SomeLemmas old new
some_lemmas old new count l = record { lines = l.lines; history = l.history; problem = l.problem; lemmas = open_are_lemmas (assumed old) l.lines l.open_yet }

pub some_and_last : (old middle new : ProofLog) (count id : ℕ) → HasLemmas old middle count → HasRefuted middle new id → SomeLemmas old new
some_and_last old middle new count id l h = record {
  lines = Lemma id h.lemma h.logged.hints ∷ l.lines;
  history = ap (λ (b : ProofLog). b.history) h.logged.proof ∙ ap (λ hs. Lemma id h.lemma h.logged.hints ∷ hs) l.history;
  problem = ap (λ (b : ProofLog). b.problem) h.logged.proof ∙ l.problem;
  lemmas = (refl, open_are_lemmas (assumed old) l.lines l.open_yet);
}

-- ---- the bound

variable_in : (xs : Clause) (q : ℕ) → list_any (eqb q) (map (λ (l : Literal). l.variable) xs) ≡ true → (l : Literal) × Contains xs l × (q ≡ l.variable)
variable_in [] q h = absurd (false≢true h)
variable_in (x ∷ xs) q h = elim (or_cases (eqb q x.variable) (list_any (eqb q) (map (λ (l : Literal). l.variable) xs)) h) [
  | inl here ↦ (x, contains_first x xs, eqb-true q x.variable here)
  | inr later ↦ let r = variable_in xs q later in (r.0, cons_contains x xs r.0 r.1, r.2)
]

in_variables : (xs : Clause) (l : Literal) (q : ℕ) → Contains xs l → q ≡ l.variable → list_any (eqb q) (map (λ (m : Literal). m.variable) xs) ≡ true
in_variables [] l q there e = absurd (nothing_in l there)
in_variables (x ∷ xs) l q there e = elim (contains_cases x xs l there) [
  | inl same ↦ or_left (eqb q x.variable) (list_any (eqb q) (map (λ (m : Literal). m.variable) xs))
      (eq-eqb q x.variable (e ∙ ap (λ (m : Literal). m.variable) (sym same)))
  | inr later ↦ or_right (eqb q x.variable) (list_any (eqb q) (map (λ (m : Literal). m.variable) xs)) (in_variables xs l q later e)
]

-- no more literals of distinct variables than places that hold them
pub run_is_short : (trail run : List Literal) → AllPairs (λ a b. a.variable ≢ b.variable) run → All (IsTrueOn trail) run → length run ≤ length trail
run_is_short trail run distinct all =
    let apart : IsDistinct eqb (map (λ (l : Literal). l.variable) run) =
    IsDistinct-from_apart eqb (map (λ (l : Literal). l.variable) run) (λ i j d before within.
    let x : Literal = record { variable = d; positive = true } in
    let in_j : j < length run = omega (arith, within, length-map run (λ (l : Literal). l.variable)) in
    ne_eqb (get_or (map (λ (l : Literal). l.variable) run) i d) (get_or (map (λ (l : Literal). l.variable) run) j d) (λ e.
    distinct i j x before in_j
    (sym (get_or-map (λ (l : Literal). l.variable) run i x d (omega (arith, before, in_j))) ∙ e ∙ get_or-map (λ (l : Literal). l.variable) run j x d in_j))) in
    omega (
      arith,
      length-le_from_is_member nat_eq_equiv (map (λ (l : Literal). l.variable) run) (map (λ (l : Literal). l.variable) trail) apart
          (λ q h. let r = variable_in run q h in in_variables trail r.0 q (All-contains (IsTrueOn trail) run r.0 all r.1) r.2),
      length-map run (λ (l : Literal). l.variable),
      length-map trail (λ (l : Literal). l.variable),
    )

power_grows : (a k : ℕ) → 2 ^ a ≤ 2 ^ (a + k)
power_grows a zero = subst (λ n. 2 ^ a ≤ 2 ^ n) (let e : a ≡ a + 0 = omega arith in e) (omega arith)
power_grows a (suc k) =
    let rest = power_grows a k in
    let double : 2 ^ suc (a + k) ≡ 2 ^ (a + k) + 2 ^ (a + k) = omega arith in
    subst (λ n. 2 ^ a ≤ 2 ^ n) (let e : suc (a + k) ≡ a + suc k = omega arith in e) (omega (arith, rest, double))

-- so many conflicts are fewer than the bound of any unit run
pub bound_of_run : (clauses : List Clause) (a : Clause) (vars base count : ℕ) (places : List LoggedPlace) (digits : List Bool) →
    IsQuiet (logged_literals (take base places)) clauses →
    All (IsTrueOn (logged_literals (take base places))) a → count ≤ number (vars - base) digits → (run : List Literal) → IsUnitRun clauses a run →
    count < 2 ^ (vars - length run)
bound_of_run clauses a vars base count places digits quiet given counted run r =
    let trail : List Literal = logged_literals (take base places) in
    let all : All (IsTrueOn trail) run = unit_runs_are_on_quiet_trails clauses a run trail quiet given r in
    let short = run_is_short trail run r.distinct all in
    let few : length run ≤ base = omega (arith, short, length-map (take base places) (λ (p : LoggedPlace). p.literal), length-take base places) in
    let below = number_bounded (vars - base) digits in
    let far : 2 ^ (vars - base) ≤ 2 ^ (vars - length run) = wider (vars - base) (vars - length run) (omega (arith, few)) in
    omega (arith, counted, below, far)
  where
    wider : (x y : ℕ) → x ≤ y → 2 ^ x ≤ 2 ^ y
    wider x y h = subst (λ n. 2 ^ x ≤ 2 ^ n) (let e : x + (y - x) ≡ y = omega (arith, h) in e) (power_grows x (y - x))

-- ---- the search between two rounds

-- the trail of the first level is sound
pub first_is_sound : (b : ProofLog) (a : Clause) (places : List LoggedPlace) → has_distinct_variables a ≡ true → assumed b ≡ a →
    LoggedGrows (standing b) (assumption_places a) places →
    AreWarranted (standing b) (length places) (assumed b) places
first_is_sound b a places distinct is g =
    let count : length (assumption_places a) ≡ length a = length-map a (λ (x : Literal). record { literal = x; implied = false }) in
    let longer = g.longer in
    sound_grows (standing b) (length places) (assumed b) (assumption_places a) places
    (subst (λ x. AreWarranted (standing b) (length places) x (assumption_places a)) (sym is)
    (assumed_are_sound (standing b) (length places) a distinct (omega (arith, count, longer)))) g

-- the first propagation was quiet
pub search_begins : (b : ProofLog) (vars limit : ℕ) (a : Clause) (places : List LoggedPlace) → has_distinct_variables a ≡ true → HasVariables vars a →
    assumed b ≡ a → 1 ≤ limit → All (HasVariables vars) (standing b) →
    All (λ c. has_distinct_variables c ≡ true) (standing b) → in_solve (phase_of b.history) ≡ true → LoggedGrows (standing b) (assumption_places a) places →
    IsQuiet (logged_literals places) (standing b) → InSearch b vars (length places) 0 limit b places true
search_begins b vars limit a places distinct range_a is one range distinct_b phase g quiet =
    let whole : take (length places) places ≡ places = take_all (length places) places (omega arith) in
    record {
      logged = no_lemmas b;
      under = one;
      sound = first_is_sound b a places distinct is g;
      given = subst (λ ps. All (IsTrueOn (logged_literals ps)) (assumed b)) (sym whole) (subst (All (IsTrueOn (logged_literals places))) (sym is)
          (all_from (IsTrueOn (logged_literals places)) a (λ l there.
          let in_front : IsTrueOn (logged_literals (take (length (assumption_places a)) places)) l =
          subst (λ ps. IsTrueOn (logged_literals ps) l) (sym g.front) (subst (λ xs. Contains xs l) (sym (literals_assumed a)) there) in
          true_at_end (λ (x : LoggedPlace). x.literal) places (length (assumption_places a)) l in_front)));
      start = subst (λ ps. IsQuiet (logged_literals ps) (standing b)) (sym whole) quiet;
      counted = omega arith;
      low = omega arith;
      range = range;
      assumed_range = subst (HasVariables vars) (sym is) range_a;
      distinct = distinct_b;
      phase = phase;
      ended = λ _. quiet;
    }

-- a decision, and the propagation after it
pub search_decides : (old : ProofLog) (vars base conflicts limit : ℕ) (proof : ProofLog) (places new : List LoggedPlace) (l : Literal) (is_quiet : Bool) →
    InSearch old vars base conflicts limit proof places true → IsOpenOn (logged_literals places) l →
    LoggedGrows (standing proof) (places ++ record { literal = l; implied = false } ∷ []) new →
    (is_quiet ≡ true → IsQuiet (logged_literals new) (standing proof)) → InSearch old vars base conflicts limit proof new is_quiet
search_decides old vars base conflicts limit proof places new l is_quiet s is_open g ended =
    let decided : List LoggedPlace = places ++ record { literal = l; implied = false } ∷ [] in
    let longer : length decided ≡ length places + 1 = length_push places (record { literal = l; implied = false }) in
    let low : base ≤ length decided = omega (arith, s.low, longer) in
    let front : take base new ≡ take base places = front_after (standing proof) base decided new low g ∙
    take-append-le base places (record { literal = l; implied = false } ∷ []) s.low in
    record {
      logged = s.logged;
      under = s.under;
      sound = sound_grows (standing proof) base (assumed proof) decided new
          (sound_push (standing proof) base (assumed proof) places (record { literal = l; implied = false }) s.sound (record {
            unassigned = is_open;
            implied = λ is. absurd (false≢true is);
            assumed = λ _ below. absurd (let h = s.low in omega (arith, below, h));
            quiet = λ _ _. s.ended refl;
          })) g;
      given = given_after base places new (assumed proof) front s.given;
      start = subst (λ ps. IsQuiet (logged_literals ps) (standing old)) (sym front) s.start;
      counted = omega (
        arith,
        s.counted,
        growing_lowers_nothing (vars - base) base places (record { literal = l; implied = false } ∷ []) s.low,
        number_after (standing proof) (vars - base) base decided new low g,
      );
      low = omega (arith, low, g.longer);
      range = s.range;
      assumed_range = s.assumed_range;
      distinct = s.distinct;
      phase = s.phase;
      ended = ended;
    }

-- a learnt clause, and the propagation after it
pub search_learns : (old : ProofLog) (vars base conflicts limit : ℕ) (proof new_proof : ProofLog) (places : List LoggedPlace) (after : LoggedTrail) (new : List LoggedPlace)
    (o is_quiet : Bool) →
    InSearch old vars base conflicts limit proof places o → HasLearnt base proof new_proof (record { vars = vars; places = places }) after →
    conflicts + 1 ≢ limit →
    LoggedGrows (standing new_proof) after.places new → (is_quiet ≡ true → IsQuiet (logged_literals new) (standing new_proof)) →
    InSearch old vars base (conflicts + 1) limit new_proof new is_quiet
search_learns old vars base conflicts limit proof new_proof places after new o is_quiet s h not_all g ended =
    let same_assumed : assumed new_proof ≡ assumed proof = ap assumed h.logged.proof in
    let front : take base new ≡ take base places = front_after (standing new_proof) base after.places new h.low g ∙ h.front in
    record {
      logged = one_more old proof new_proof conflicts h.id h.lemma s.logged h.logged h.open_yet;
      under = let below = s.under in omega (arith, below, λ (e : conflicts + 1 ≡ limit). not_all e);
      sound = sound_grows (standing new_proof) base (assumed new_proof) after.places new h.sound g;
      given = given_after base places new (assumed new_proof) front (subst (All (IsTrueOn (logged_literals (take base places)))) (sym same_assumed) s.given);
      start = subst (λ ps. IsQuiet (logged_literals ps) (standing old)) (sym front) s.start;
      counted = learnt_counts conflicts vars base places after new (standing new_proof) s.counted h.vars h.rises h.low g;
      low = omega (arith, h.low, g.longer);
      assumed_range = subst (HasVariables vars) (sym same_assumed) s.assumed_range;
      range = subst (All (HasVariables vars)) (sym h.logged.stands)
          (All-push (HasVariables vars) (standing proof) h.lemma s.range (subst (λ n. HasVariables n h.lemma) h.vars h.range));
      distinct = subst (All (λ c. has_distinct_variables c ≡ true)) (sym h.logged.stands)
          (All-push (λ c. has_distinct_variables c ≡ true) (standing proof) h.lemma s.distinct h.distinct);
      phase = ap (λ (b : ProofLog). in_solve (phase_of b.history)) h.logged.proof;
      ended = ended;
    }
  where
    learnt_counts : (count vars base : ℕ) (places : List LoggedPlace) (after : LoggedTrail) (new : List LoggedPlace) (clauses : List Clause) →
        count ≤ number (vars - base) (drop base (digits places)) → after.vars ≡ vars →
        number (after.vars - base) (drop base (digits places)) + 1 ≤ number (after.vars - base) (drop base (digits after.places)) →
        base ≤ length after.places → LoggedGrows clauses after.places new →
        count + 1 ≤ number (vars - base) (drop base (digits new))
    learnt_counts count vars base places after new clauses counted is rises low g =
        let rises_here : number (vars - base) (drop base (digits places)) + 1 ≤ number (vars - base) (drop base (digits after.places)) =
        subst (λ n. number (n - base) (drop base (digits places)) + 1 ≤ number (n - base) (drop base (digits after.places))) is rises in
        omega (arith, counted, rises_here, number_after clauses (vars - base) base after.places new low g)

-- the limit is reached
pub search_is_spent : (old : ProofLog) (vars base conflicts limit : ℕ) (proof new_proof : ProofLog) (places : List LoggedPlace) (after : LoggedTrail) (o : Bool) →
    InSearch old vars base conflicts limit proof places o → HasLearnt base proof new_proof (record { vars = vars; places = places }) after →
    conflicts + 1 ≡ limit → IsSpent old new_proof vars limit
search_is_spent old vars base conflicts limit proof new_proof places after o s h all = record {
  lemmas = subst (HasLemmas old new_proof) all (one_more old proof new_proof conflicts h.id h.lemma s.logged h.logged h.open_yet);
  bound = λ run r. subst (λ n. n < 2 ^ (vars - length run)) all
      (bound_of_run (standing old) (assumed old) vars base (conflicts + 1) places (drop base (digits after.places)) s.start
      (subst (All (IsTrueOn (logged_literals (take base places)))) s.logged.same_step s.given)
      (let counted = s.counted in
      let rises : number (vars - base) (drop base (digits places)) + 1 ≤ number (vars - base) (drop base (digits after.places)) =
      subst (λ n. number (n - base) (drop base (digits places)) + 1 ≤ number (n - base) (drop base (digits after.places))) h.vars h.rises in
      omega (arith, counted, rises))
      run r);
}

-- what the propagation after a learnt clause needs
pub learnt_ranges : (old : ProofLog) (vars base conflicts limit : ℕ) (proof new_proof : ProofLog) (places : List LoggedPlace) (before after : LoggedTrail) (o : Bool) →
    InSearch old vars base conflicts limit proof places o → HasLearnt base proof new_proof before after → before.vars ≡ vars →
    All (HasVariables after.vars) (standing new_proof)
learnt_ranges old vars base conflicts limit proof new_proof places before after o s h is =
    subst (All (HasVariables after.vars)) (sym h.logged.stands)
    (All-push (HasVariables after.vars) (standing proof) h.lemma (subst (λ n. All (HasVariables n) (standing proof)) (sym (h.vars ∙ is)) s.range) h.range)

pub learnt_distinct : (old : ProofLog) (vars base conflicts limit : ℕ) (proof new_proof : ProofLog) (places : List LoggedPlace) (before after : LoggedTrail) (o : Bool) →
    InSearch old vars base conflicts limit proof places o → HasLearnt base proof new_proof before after →
    All (λ c. has_distinct_variables c ≡ true) (standing new_proof)
learnt_distinct old vars base conflicts limit proof new_proof places before after o s h =
    subst (All (λ c. has_distinct_variables c ≡ true)) (sym h.logged.stands)
    (All-push (λ c. has_distinct_variables c ≡ true) (standing proof) h.lemma s.distinct h.distinct)

-- each variable is assigned and nothing is false or unit
pub search_finds : (old : ProofLog) (vars base conflicts limit : ℕ) (proof : ProofLog) (places : List LoggedPlace) (values : List (Option Bool)) →
    InSearch old vars base conflicts limit proof places true →
    AreAssigned (logged_literals places) vars → HasValues (logged_literals places) vars values → IsFound old proof vars limit values
search_finds old vars base conflicts limit proof places values s all has = record {
  count = conflicts;
  lemmas = s.logged;
  under = s.under;
  solution = solution (logged_literals places) vars (standing proof) (assumed proof) values (s.ended refl) all
      (consistent (standing proof) base (assumed proof) places s.sound)
      (λ c there l in_c. All-contains (IsWithin vars) c l (All-contains (HasVariables vars) (standing proof) c s.range there) in_c)
      (λ l there. All-contains (IsWithin vars) (assumed proof) l s.assumed_range there)
      (all_from (IsTrueOn (logged_literals places)) (assumed proof)
      (λ l there. true_at_end (λ (x : LoggedPlace). x.literal) places base l (All-contains (IsTrueOn (logged_literals (take base places))) (assumed proof) l s.given there)))
      has;
}

-- the next assumption has no value yet
pub assumed_next : (vars : ℕ) (a : Clause) (i : ℕ) (l : Literal) → has_distinct_variables a ≡ true → HasVariables vars a → slice_get a i ≡ Some l →
    IsLoggedUnassigned (record { vars = vars; places = assumption_places (take i a) }) l
assumed_next vars a i l d range at = record {
  in_range = (All-contains (IsWithin vars) a l range (Contains_from_get a i l at)).1;
  unassigned = subst (λ xs. IsOpenOn xs l) (sym (literals_assumed (take i a))) (open_ahead a i l d at);
}

-- the clauses after the last lemma
pub refuted_ranges : (vars : ℕ) (old new : ProofLog) (id : ℕ) → HasRefuted old new id → All (HasVariables vars) (standing old) →
    All (HasVariables vars) (standing new)
refuted_ranges vars old new id h range =
    subst (All (HasVariables vars)) (sym h.logged.stands) (All-push (HasVariables vars) (standing old) h.lemma range (h.range vars range))

pub refuted_distinct : (old new : ProofLog) (id : ℕ) → HasRefuted old new id → All (λ c. has_distinct_variables c ≡ true) (standing old) →
    All (λ c. has_distinct_variables c ≡ true) (standing new)
refuted_distinct old new id h distinct =
    subst (All (λ c. has_distinct_variables c ≡ true)) (sym h.logged.stands)
    (All-push (λ c. has_distinct_variables c ≡ true) (standing old) h.lemma distinct h.distinct)
