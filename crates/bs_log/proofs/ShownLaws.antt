-- What the clauses and the proof of a step's list show.
use Rattle.std.proofs.Common.{◌≡◌, ◌≢◌, ℕ, zero, suc, ◌+◌, ◌-◌, ◌<◌, ◌≤◌, arith, Bool, true, false, ◌||◌, cond, List, [], ◌∷◌, ◌++◌, map, length, take, drop, reverse}
use Rattle.std.proofs.Common.{refl, sym, ap, subst, ◌∙◌, Option, Some, None, inl, inr}
use Rattle.std.specs.Prelude.{All, Contains, slice_get, option_map}
use Rattle.std.specs.Bool.{beq}
use Rattle.std.specs.List.{AllByRecursion, range_with_len}
use Rattle.std.proofs.lemmas.Bool.{or_left, false≢true, cases_lt}
use Rattle.std.proofs.lemmas.List.{append_assoc, reverse-append, reverse-reverse}
use Rattle.std.proofs.lemmas.List.Elements.{recursion_from_All, All-from_recursion, All-contains}
use Rattle.bs_clause.specs.Literal.{Literal, Clause, literal_value, Satisfies}
use Rattle.bs_log.specs.declared.line.Line.{Line}
use Rattle.bs_log.specs.declared.line.Line.TheVariants.{Finish}
use Rattle.bs_log.specs.History.{Problem, History, Entry, step_of, activation_of, added, live, state_of, is_deleted, last_id}
use Rattle.bs_log.specs.Propagation.{hints_are_unit, last_is_false}
use Rattle.bs_log.specs.Refusal.{NoneRefused, IsAccepted, history_of, assumptions_of, passes, is_lemma, entry_of, denies, has_distinct_variables}
use Rattle.bs_log.specs.Refutation.{blocks_of}
use Rattle.bs_log.proofs.Finishes.{finish_is_inside}
use Rattle.bs_log.proofs.Laws.{finished_steps_are_refuted, front_is_right, step_of-positive}
use Rattle.bs_log.proofs.Tests.{IsRight, right_from_none}
use Rattle.bs_log.specs.declared.id_offsets.Frame.{Frame}
use Rattle.bs_log.specs.Cnf.{units, others, behind, closed, cnf_of}
use Rattle.bs_log.specs.Lines.{raised}
use Rattle.bs_log.specs.Proof.{IsProofLine, IsRefutation, alone, shown, frame_of, lemma_in, ending, proof_of}
use Rattle.bs_log.specs.ShownLaw.{BlocksOther, UnlistedMeets, FinishedIsUnmet, ProofsAreRight}
use Rattle.bs_log.proofs.Found.{found_filter}
use Rattle.bs_log.proofs.Standing.{Fits, named, new_entry}
use Rattle.bs_log.proofs.Units.{ending_is_unit, ending_is_false}
use Rattle.bs_log.proofs.Lines.{Stands, lines_are_right, hints_of_units}
use Rattle.bs_log.proofs.Lemmas.{IsLemmaOf, lemma_found}

-- ---- lists

pub each_append : {X : Type 0} (P : X → Type 0) (xs ys : List X) → AllByRecursion P xs → AllByRecursion P ys → AllByRecursion P (xs ++ ys)
each_append P [] ys a b = b
each_append P (x ∷ xs) ys a b = (a.0, each_append P xs ys a.1 b)

each_front : {X : Type 0} (P : X → Type 0) (xs ys : List X) → AllByRecursion P (xs ++ ys) → AllByRecursion P xs
each_front P [] ys a = tt
each_front P (x ∷ xs) ys a = (a.0, each_front P xs ys a.1)

each_behind : {X : Type 0} (P : X → Type 0) (xs ys : List X) → AllByRecursion P (xs ++ ys) → AllByRecursion P ys
each_behind P [] ys a = a
each_behind P (x ∷ xs) ys a = each_behind P xs ys a.1

pub each_map : {X Y : Type 0} (Q : X → Type 0) (P : Y → Type 0) (g : X → Y) (xs : List X) → ((x : X) → Q x → P (g x)) → AllByRecursion Q xs →
    AllByRecursion P (map g xs)
each_map Q P g [] to a = tt
each_map Q P g (x ∷ xs) to a = (to x a.0, each_map Q P g xs to a.1)

each_back : {X Y : Type 0} (Q : X → Type 0) (P : Y → Type 0) (g : X → Y) (xs : List X) → ((x : X) → P (g x) → Q x) → AllByRecursion P (map g xs) →
    AllByRecursion Q xs
each_back Q P g [] to a = tt
each_back Q P g (x ∷ xs) to a = (to x a.0, each_back Q P g xs to a.1)

pub each_weaker : {X : Type 0} (Q P : X → Type 0) (xs : List X) → ((x : X) → Q x → P x) → AllByRecursion Q xs → AllByRecursion P xs
each_weaker Q P [] to a = tt
each_weaker Q P (x ∷ xs) to a = (to x a.0, each_weaker Q P xs to a.1)

pub each_reverse : {X : Type 0} (P : X → Type 0) (xs : List X) → AllByRecursion P xs → AllByRecursion P (reverse xs)
each_reverse P [] a = tt
each_reverse {X} P (x ∷ xs) a =
    subst (λ (ys : List X). AllByRecursion P ys) (sym (reverse-append (x ∷ []) xs)) (each_append P (reverse xs) (x ∷ []) (each_reverse P xs a.1) (a.0, tt))

pub each_range : (P : ℕ → Type 0) (a n : ℕ) → ((j : ℕ) → a ≤ j → j < a + n → P j) → AllByRecursion P (range_with_len a n)
each_range P a zero at = tt
each_range P a (suc n) at = (at a (omega arith) (omega arith), each_range P (a + 1) n (λ j low high. at j (omega (arith, low)) (omega (arith, high))))

range_each : (P : ℕ → Type 0) (a n j : ℕ) → AllByRecursion P (range_with_len a n) → a ≤ j → j < a + n → P j
range_each P a zero j all low high = absurd (omega (arith, low, high))
range_each P a (suc n) j all low high = elim (cases_lt a j) [
  | inl more ↦ range_each P (a + 1) n j all.1 (omega (arith, more)) (omega (arith, high))
  | inr least ↦ let same : a ≡ j = omega (arith, low, least) in subst P same all.0
]

split_at : {X : Type 0} (xs : List X) (k : ℕ) (x : X) → slice_get xs k ≡ Some x → xs ≡ take k xs ++ x ∷ drop (suc k) xs
split_at [] k x e = cc
split_at (y ∷ xs) zero x e = let same : y ≡ x = cc in λ t. same t ∷ xs
split_at {X} (y ∷ xs) (suc k) x e = ap (λ (l : List X). y ∷ l) (split_at xs k x e)

-- ---- values

pub off_is_true : (v : ℕ → Bool) (p : Problem) (step : ℕ) → v (p.vars + step) ≡ false → Satisfies v (closed p step)
off_is_true v p step e = ap (λ b. beq b false || false) e

off_is_off : (v : ℕ → Bool) (p : Problem) (step : ℕ) → Satisfies v (closed p step) → v (p.vars + step) ≡ false
off_is_off v p step = by (v (p.vars + step))
  where
    by : (b : Bool) → (beq b false || false) ≡ true → b ≡ false
    by true e = absurd (false≢true e)
    by false e = refl

activation_is_on : (v : ℕ → Bool) (p : Problem) (step : ℕ) → literal_value v (activation_of p step) ≡ true → v (p.vars + step) ≡ true
activation_is_on v p step = by (v (p.vars + step))
  where
    by : (b : Bool) → beq b true ≡ true → b ≡ true
    by true e = refl
    by false e = absurd (false≢true e)

unit_value : (v : ℕ → Bool) (l : Literal) → Satisfies v (l ∷ []) → literal_value v l ≡ true
unit_value v l = by (literal_value v l)
  where
    by : (b : Bool) → (b || false) ≡ true → b ≡ true
    by true e = refl
    by false e = absurd (false≢true e)

-- ---- an unlisted state

pub unlisted_meets : UnlistedMeets
unlisted_meets basis width step s h low high shown all = (
  v,
  All-from_recursion (Satisfies v) (cnf_of p h step)
      (each_append (Satisfies v) p.clauses (behind p h step) (recursion_from_All (Satisfies v) p.clauses shown.clauses)
      (each_append (Satisfies v) (units (assumptions_of p step)) _ assumed
      (each_append (Satisfies v) (reverse (blocks_of h step)) _ (each_reverse (Satisfies v) (blocks_of h step) blocks) off))),
)
  where
    p : Problem
    p = basis.problem

    v : ℕ → Bool
    v = shown.value

    assumed : AllByRecursion (Satisfies v) (units (assumptions_of p step))
    assumed =
        each_map (λ (l : Literal). literal_value v l ≡ true) (Satisfies v) (λ l. l ∷ []) (assumptions_of p step) (λ l e. or_left (literal_value v l) false e)
        (recursion_from_All (λ l. literal_value v l ≡ true) (assumptions_of p step) shown.assumptions)

    block : (c : Clause) → BlocksOther basis width step s c → Satisfies v c
    block c b = subst (Satisfies v) (sym b.is) (shown.blocks b.state b.wide b.other)

    blocks : AllByRecursion (Satisfies v) (blocks_of h step)
    blocks =
        each_weaker (BlocksOther basis width step s) (Satisfies v) (blocks_of h step) block
        (recursion_from_All (BlocksOther basis width step s) (blocks_of h step) all)

    off : AllByRecursion (Satisfies v) (map (closed p) (others (length p.steps) step))
    off =
        each_map (λ j. v (p.vars + j) ≡ false) (Satisfies v) (closed p) (others (length p.steps) step) (λ j e. off_is_true v p j e)
        (each_append (λ j. v (p.vars + j) ≡ false) (range_with_len 1 (step - 1)) (range_with_len (step + 1) (length p.steps - step))
        (each_range (λ j. v (p.vars + j) ≡ false) 1 (step - 1)
        (λ j first less. shown.other_activations j first (omega (arith, less, high)) (λ e. omega (arith, less, e, low))))
        (each_range (λ j. v (p.vars + j) ≡ false) (step + 1) (length p.steps - step)
        (λ j first less. shown.other_activations j (omega (arith, first)) (omega (arith, less, first)) (λ e. omega (arith, first, e)))))

-- ---- a finished step

module _ (p : Problem) (log : List Line) (place id : ℕ) (ok : IsAccepted p log) (line : slice_get log place ≡ Some (Finish id)) where
  abbrev pub h : History
  h = history_of (take place log)

  pub parts : log ≡ take place log ++ Finish id ∷ drop (suc place) log
  parts = split_at log place (Finish id) line

  pub inside : step_of h ≤ length p.steps
  inside = finish_is_inside p log (take place log) (drop (suc place) log) id ok parts

  unmet_here : (v : ℕ → Bool) → Contains (assumptions_of p (step_of h)) (activation_of p (step_of h)) → All (Satisfies v) (cnf_of p h (step_of h)) → ⊥
  unmet_here v activation all =
      finished_steps_are_refuted p log (take place log) (drop (suc place) log) id v ok parts
      (record {
        in_range = inside;
        clauses = All-from_recursion (Satisfies v) p.clauses (each_front (Satisfies v) p.clauses (behind p h step) each);
        blocks =
            All-from_recursion (Satisfies v) (blocks_of h step)
            (subst (λ (cs : List Clause). AllByRecursion (Satisfies v) cs) (reverse-reverse (blocks_of h step))
            (each_reverse (Satisfies v) (reverse (blocks_of h step)) (each_front (Satisfies v) (reverse (blocks_of h step)) (map (closed p) (others (length p.steps) step)) later)));
        activation = activation_is_on v p step (All-contains (λ (l : Literal). literal_value v l ≡ true) (assumptions_of p step) (activation_of p step) assumed activation);
        other_activations = other;
      })
      assumed
    where
      step : ℕ
      step = step_of h

      each : AllByRecursion (Satisfies v) (cnf_of p h step)
      each = recursion_from_All (Satisfies v) (cnf_of p h step) all

      back : AllByRecursion (Satisfies v) (behind p h step)
      back = each_behind (Satisfies v) p.clauses (behind p h step) each

      assumed : All (λ (l : Literal). literal_value v l ≡ true) (assumptions_of p step)
      assumed =
          All-from_recursion (λ (l : Literal). literal_value v l ≡ true) (assumptions_of p step)
          (each_back (λ (l : Literal). literal_value v l ≡ true) (Satisfies v) (λ l. l ∷ []) (assumptions_of p step) (λ l e. unit_value v l e)
          (each_front (Satisfies v) (units (assumptions_of p step)) _ back))

      later : AllByRecursion (Satisfies v) (reverse (blocks_of h step) ++ map (closed p) (others (length p.steps) step))
      later = each_behind (Satisfies v) (units (assumptions_of p step)) _ back

      off : AllByRecursion (λ j. v (p.vars + j) ≡ false) (others (length p.steps) step)
      off =
          each_back (λ j. v (p.vars + j) ≡ false) (Satisfies v) (closed p) (others (length p.steps) step) (λ j e. off_is_off v p j e)
          (each_behind (Satisfies v) (reverse (blocks_of h step)) (map (closed p) (others (length p.steps) step)) later)

      other : (j : ℕ) → 1 ≤ j → j ≤ length p.steps → j ≢ step → v (p.vars + j) ≡ false
      other j first last differ = elim (cases_lt j step) [
        | inl less ↦ range_each (λ j. v (p.vars + j) ≡ false) 1 (step - 1) j
            (each_front (λ j. v (p.vars + j) ≡ false) (range_with_len 1 (step - 1)) _ off) first (omega (arith, first, less))
        | inr more ↦ range_each (λ j. v (p.vars + j) ≡ false) (step + 1) (length p.steps - step) j
            (each_behind (λ j. v (p.vars + j) ≡ false) (range_with_len 1 (step - 1)) _ off) (omega (arith, more, differ)) (omega (arith, more, differ, last))
      ]

  pub right_lines : NoneRefused p (Finish id ∷ h)
  right_lines =
      subst (NoneRefused p) (reverse-append (take place log) (Finish id ∷ []))
      (front_is_right p log (take place log ++ Finish id ∷ []) (drop (suc place) log) ok (parts ∙ sym (append_assoc (take place log) (Finish id ∷ []) (drop (suc place) log))))

-- the proof over lines of which none is refused
pub proof_is_right : (p : Problem) (h : History) (id : ℕ) → NoneRefused p (Finish id ∷ h) → step_of h ≤ length p.steps →
    IsRefutation (cnf_of p h (step_of h)) (proof_of p h (step_of h) id)
proof_is_right p h id right inside =
    record {
      right = (by (entry_of (live p h) id) refl, lines_are_right p h step (step_of-positive h) inside h [] right.1 (omega arith) refl);
      last = tt;
    }
  where
    step : ℕ
    step = step_of h

    f : Frame
    f = frame_of p h step

    q : Problem
    q = alone (cnf_of p h step)

    fits : Fits f p q
    fits = record { extra = behind p h step; clauses = refl; front = refl; by = refl }

    is_right : IsRight p (state_of p h) (Finish id)
    is_right = right_from_none p (state_of p h) (Finish id) right.0

    added_too : (e : Entry) → entry_of (live p h) id ≡ Some e → entry_of (added p h) id ≡ Some e
    added_too e found = taken (is_deleted h id) (sym (found_filter (is_deleted h) (added p h) id) ∙ found)
      where
        taken : (b : Bool) → cond b None (entry_of (added p h) id) ≡ Some e → entry_of (added p h) id ≡ Some e
        taken true none = absurd (cc)
        taken false there = there

    ends : (e : Entry) → entry_of (live p h) id ≡ Some e → is_lemma e ≡ true → denies (assumptions_of p step) e.literals ≡ true →
        IsProofLine q (shown f p h) (ending f (assumptions_of p step) (lemma_in h id) (last_id q (shown f p h)) id)
    ends e found one denied =
        let lemma : IsLemmaOf h id e = lemma_found p h id e right.1 one (added_too e found) in
        let stands : Stands (live q (shown f p h)) (raised f id) (lemma_in h id) =
        record { entry = new_entry f e; found = named f p q fits h id ∙ ap (option_map (new_entry f)) found; is = sym lemma.is } in
        let distinct : has_distinct_variables (lemma_in h id) ≡ true = ap has_distinct_variables lemma.is ∙ lemma.distinct in
        let hints =
        hints_of_units p h step (step_of-positive h) inside h (raised f id) (lemma_in h id) stands (lemma_in h id)
        (ap (denies (assumptions_of p step)) lemma.is ∙ denied) in (
          refl,
          hints.1,
          ap (hints_are_unit []) hints.0 ∙ ending_is_unit (lemma_in h id) distinct,
          ap (last_is_false []) hints.0 ∙ ending_is_false (lemma_in h id) distinct,
        )

    by : (o : Option Entry) → entry_of (live p h) id ≡ o →
        IsProofLine q (shown f p h) (ending f (assumptions_of p step) (lemma_in h id) (last_id q (shown f p h)) id)
    by None found = absurd (false≢true (sym (ap (passes is_lemma) found) ∙ is_right.names))
    by (Some e) found =
        ends e found (sym (ap (passes is_lemma) found) ∙ is_right.names)
        (sym (ap (passes (λ e. denies (assumptions_of p step) e.literals)) found) ∙ is_right.finish)

pub finished_is_unmet : FinishedIsUnmet
finished_is_unmet p log step place id v ok fin activation all =
    unmet_here p log place id ok fin.line v
    (subst (λ n. Contains (assumptions_of p n) (activation_of p n)) (sym fin.step_is) activation)
    (subst (λ n. All (Satisfies v) (cnf_of p (history_of (take place log)) n)) (sym fin.step_is) all)

pub proofs_are_right : ProofsAreRight
proofs_are_right p log step place id ok fin =
    subst (λ n. IsRefutation (cnf_of p (history_of (take place log)) n) (proof_of p (history_of (take place log)) n id)) fin.step_is
    (proof_is_right p (history_of (take place log)) id (right_lines p log place id ok fin.line) (inside p log place id ok fin.line))
