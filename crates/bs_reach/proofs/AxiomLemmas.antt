-- The clauses of the list under their new ids.
use Rattle.std.proofs.Common.{◌≡◌, ℕ, ◌+◌, ◌<◌, ◌≤◌, arith, Bool, true, false, cond, eqb, List, [], ◌∷◌, ◌++◌, length, refl, sym, ap, subst, ◌∙◌, Option, Some, None, inl, inr}
use Rattle.std.specs.Prelude.{option_map}
use Rattle.std.specs.Option.{option_or}
use Rattle.std.specs.List.{AllByRecursion}
use Rattle.std.proofs.lemmas.Bool.{eqb-true, eq-eqb, ne_eqb, cases_lt}
use Rattle.std.proofs.lemmas.List.Elements.{recursion_from_All}
use Rattle.bs_clause.specs.Literal.{Clause}
use Rattle.bs_clause.specs.Range.{IsWithin, HasVariables}
use Rattle.bs_log.specs.declared.origin.Origin.TheVariants.{Axiom}
use Rattle.bs_log.specs.History.{Problem, Entry, axioms_from}
use Rattle.bs_log.specs.Refusal.{entry_of}
use Rattle.bs_reach.specs.declared.offsets.Shift.{Shift}
use Rattle.bs_reach.specs.Renamed.{new_id, new_clause}
use Rattle.bs_reach.specs.Widened.{IsWidened}
use Rattle.bs_reach.proofs.ShiftLemmas.{IsShift, same_test, literal_stays, new_at_front, new_listed, new_behind}
use Rattle.bs_reach.proofs.EntryLemmas.{new_entry, found_append}

-- ---- clauses that stay

clause_stays_by : (s : Shift) (n : ℕ) (c : Clause) → n ≤ s.vars → AllByRecursion (IsWithin n) c → new_clause s c ≡ c
clause_stays_by s n [] le all = refl
clause_stays_by s n (l ∷ c) le all =
    let first : l.variable ≤ s.vars = omega (arith, all.0.1, le) in
    λ i. literal_stays s l first i ∷ clause_stays_by s n c le all.1 i

pub clause_stays : (s : Shift) (n : ℕ) (c : Clause) → n ≤ s.vars → HasVariables n c → new_clause s c ≡ c
clause_stays s n c le h = clause_stays_by s n c le (recursion_from_All (IsWithin n) c h)

abbrev pub Stays : Shift → Clause → Type 0
Stays s c = new_clause s c ≡ c

pub all_stay : (s : Shift) (n : ℕ) (cs : List Clause) → n ≤ s.vars → AllByRecursion (HasVariables n) cs → AllByRecursion (Stays s) cs
all_stay s n [] le all = tt
all_stay s n (c ∷ cs) le all = (clause_stays s n c le all.0, all_stay s n cs le all.1)

left_part : {X : Type 0} (P : X → Type 0) (xs ys : List X) → AllByRecursion P (xs ++ ys) → AllByRecursion P xs
left_part P [] ys all = tt
left_part P (x ∷ xs) ys all = (all.0, left_part P xs ys all.1)

right_part : {X : Type 0} (P : X → Type 0) (xs ys : List X) → AllByRecursion P (xs ++ ys) → AllByRecursion P ys
right_part P [] ys all = all
right_part P (x ∷ xs) ys all = right_part P xs ys all.1

-- ---- which clause an id names

axioms_append : (n : ℕ) (xs ys : List Clause) → axioms_from n (xs ++ ys) ≡ axioms_from n xs ++ axioms_from (n + length xs) ys
axioms_append n [] ys = let same : n ≡ n + 0 = omega arith in ap (λ m. axioms_from m ys) same
axioms_append n (x ∷ xs) ys =
    let same : n + 1 + length xs ≡ n + length (x ∷ xs) = omega arith in
    let e : Entry = record { id = n; origin = Axiom; literals = x } in
    ap (λ (r : List Entry). e ∷ r)
    (axioms_append (n + 1) xs ys ∙ ap (λ m. axioms_from (n + 1) xs ++ axioms_from m ys) same)

split_found : (n : ℕ) (xs ys : List Clause) (i : ℕ) →
    entry_of (axioms_from n (xs ++ ys)) i ≡ option_or (entry_of (axioms_from n xs) i) (entry_of (axioms_from (n + length xs) ys) i)
split_found n xs ys i =
    ap (λ (es : List Entry). entry_of es i) (axioms_append n xs ys) ∙ found_append (axioms_from n xs) (axioms_from (n + length xs) ys) i

none_below : (n : ℕ) (cs : List Clause) (i : ℕ) → i < n → entry_of (axioms_from n cs) i ≡ None
none_below n [] i lt = refl
none_below n (c ∷ cs) i lt =
    let e : Entry = record { id = n; origin = Axiom; literals = c } in
    ap (λ t. cond t (Some e) (entry_of (axioms_from (n + 1) cs) i)) (ne_eqb n i (λ same. omega (arith, lt, same)))
    ∙ none_below (n + 1) cs i (omega (arith, lt))

none_above : (n : ℕ) (cs : List Clause) (i : ℕ) → n + length cs ≤ i → entry_of (axioms_from n cs) i ≡ None
none_above n [] i le = refl
none_above n (c ∷ cs) i le =
    let e : Entry = record { id = n; origin = Axiom; literals = c } in
    ap (λ t. cond t (Some e) (entry_of (axioms_from (n + 1) cs) i)) (ne_eqb n i (λ same. omega (arith, le, same)))
    ∙ none_above (n + 1) cs i (omega (arith, le))

-- the entry under another id
abbrev at_id : ℕ → Entry → Entry
at_id id e = record { id = id; origin = e.origin; literals = e.literals }

abbrev axiom_at : ℕ → Clause → Entry
axiom_at n c = record { id = n; origin = Axiom; literals = c }

under_own : (n : ℕ) (cs : List Clause) (i : ℕ) → entry_of (axioms_from n cs) i ≡ option_map (at_id i) (entry_of (axioms_from n cs) i)
under_own n [] i = refl
under_own n (c ∷ cs) i = by (eqb n i) refl (under_own (n + 1) cs i)
  where
    by : (b : Bool) → eqb n i ≡ b → (entry_of (axioms_from (n + 1) cs) i) ≡ option_map (at_id i) (entry_of (axioms_from (n + 1) cs) i) → cond b (Some (axiom_at n c)) (entry_of (axioms_from (n + 1) cs) i) ≡ option_map (at_id i) (cond b (Some (axiom_at n c)) (entry_of (axioms_from (n + 1) cs) i))
    by true is later = let same : n ≡ i = eqb-true n i is in ap (λ m. Some (at_id m (axiom_at n c))) same
    by false is later = later

same_up : (n i d : ℕ) → eqb (n + d) (i + d) ≡ eqb n i
same_up n i d =
    same_test (eqb (n + d) (i + d)) (eqb n i) (λ t. eq-eqb n i (let e = eqb-true (n + d) (i + d) t in omega (arith, e)))
    (λ t. eq-eqb (n + d) (i + d) (ap (λ m. m + d) (eqb-true n i t)))

moved_up : (n d : ℕ) (cs : List Clause) (i : ℕ) →
    entry_of (axioms_from (n + d) cs) (i + d) ≡ option_map (at_id (i + d)) (entry_of (axioms_from n cs) i)
moved_up n d [] i = refl
moved_up n d (c ∷ cs) i =
    ap (λ t. cond t (Some (at_id (n + d) (axiom_at n c))) (entry_of (axioms_from (n + d + 1) cs) (i + d))) (same_up n i d)
    ∙ (ap (λ m. cond (eqb n i) (Some (at_id (n + d) (axiom_at n c))) (entry_of (axioms_from m cs) (i + d))) up
    ∙ by (eqb n i) refl (moved_up (n + 1) d cs i))
  where
    up : n + d + 1 ≡ n + 1 + d
    up = omega arith

    by : (b : Bool) → eqb n i ≡ b → entry_of (axioms_from (n + 1 + d) cs) (i + d) ≡ option_map (at_id (i + d)) (entry_of (axioms_from (n + 1) cs) i) →
        cond b (Some (at_id (n + d) (axiom_at n c))) (entry_of (axioms_from (n + 1 + d) cs) (i + d)) ≡
        option_map (at_id (i + d)) (cond b (Some (axiom_at n c)) (entry_of (axioms_from (n + 1) cs) i))
    by true is later = let same : n ≡ i = eqb-true n i is in ap (λ m. Some (at_id (m + d) (axiom_at n c))) same
    by false is later = later

under_new : (s : Shift) (n : ℕ) (cs : List Clause) (i : ℕ) → AllByRecursion (Stays s) cs →
    option_map (new_entry s) (entry_of (axioms_from n cs) i) ≡ option_map (at_id (new_id s i)) (entry_of (axioms_from n cs) i)
under_new s n [] i all = refl
under_new s n (c ∷ cs) i all = by (eqb n i) refl (under_new s (n + 1) cs i all.1)
  where
    by : (b : Bool) → eqb n i ≡ b → option_map (new_entry s) (entry_of (axioms_from (n + 1) cs) i) ≡ option_map (at_id (new_id s i)) (entry_of (axioms_from (n + 1) cs) i) →
        option_map (new_entry s) (cond b (Some (axiom_at n c)) (entry_of (axioms_from (n + 1) cs) i)) ≡ option_map (at_id (new_id s i)) (cond b (Some (axiom_at n c)) (entry_of (axioms_from (n + 1) cs) i))
    by true is later =
        let same : n ≡ i = eqb-true n i is in
        λ j. Some (record { id = new_id s (same j); origin = Axiom; literals = all.0 j })
    by false is later = later

none_after : (o : Option Entry) → option_or o None ≡ o
none_after None = refl
none_after (Some e) = refl

module _ (s : Shift) (head tail more later : List Clause) (i : ℕ) (ok : IsShift s) (front_is : s.front ≡ length head) (front_goes : s.front_by ≡ length more)
    (listed_is : s.listed ≡ length head + length tail) (listed_goes : s.listed_by ≡ length more + length later)
    (heads : AllByRecursion (Stays s) head) (tails : AllByRecursion (Stays s) tail) where
  abbrev new : ℕ
  new = new_id s i

  abbrev in_head : ℕ → Option Entry
  in_head x = entry_of (axioms_from 1 head) x

  abbrev in_more : ℕ → Option Entry
  in_more x = entry_of (axioms_from (1 + length head) more) x

  abbrev in_tail : ℕ → Option Entry
  in_tail x = entry_of (axioms_from (1 + length head + length more) tail) x

  abbrev in_later : ℕ → Option Entry
  in_later x = entry_of (axioms_from (1 + length head + length more + length tail) later) x

  wide_is : (x : ℕ) → entry_of (axioms_from 1 (head ++ (more ++ (tail ++ later)))) x ≡
      option_or (in_head x) (option_or (in_more x) (option_or (in_tail x) (in_later x)))
  wide_is x =
      split_found 1 head (more ++ (tail ++ later)) x
      ∙ ap (option_or (in_head x)) (split_found (1 + length head) more (tail ++ later) x
      ∙ ap (option_or (in_more x)) (split_found (1 + length head + length more) tail later x))

  abbrev Names : Type 0
  Names = entry_of (axioms_from 1 (head ++ (more ++ (tail ++ later)))) new ≡ option_map (new_entry s) (entry_of (axioms_from 1 (head ++ tail)) i)

  at_front : i ≤ length head → Names
  at_front le =
      let same : new ≡ i = new_at_front s i (omega (arith, front_is, le)) in
      let wide : entry_of (axioms_from 1 (head ++ (more ++ (tail ++ later)))) i ≡ in_head i =
      split_found 1 head (more ++ (tail ++ later)) i
      ∙ (ap (option_or (in_head i)) (none_below (1 + length head) (more ++ (tail ++ later)) i (omega (arith, le))) ∙ none_after (in_head i)) in
      let narrow : entry_of (axioms_from 1 (head ++ tail)) i ≡ in_head i =
      split_found 1 head tail i ∙ (ap (option_or (in_head i)) (none_below (1 + length head) tail i (omega (arith, le))) ∙ none_after (in_head i)) in
      ap (entry_of (axioms_from 1 (head ++ (more ++ (tail ++ later))))) same
      ∙ (wide ∙ (under_own 1 head i ∙ (ap (λ m. option_map (at_id m) (in_head i)) (sym same)
      ∙ (sym (under_new s 1 head i heads) ∙ ap (option_map (new_entry s)) (sym narrow)))))

  in_list : length head < i → i ≤ length head + length tail → Names
  in_list lt le =
      let same : new ≡ i + length more =
      new_listed s i (omega (arith, front_is, lt)) (omega (arith, listed_is, le)) ∙ ap (λ m. i + m) front_goes in
      let x : ℕ = i + length more in
      let old : Option Entry = entry_of (axioms_from (1 + length head) tail) i in
      let wide : entry_of (axioms_from 1 (head ++ (more ++ (tail ++ later)))) x ≡ in_tail x =
      wide_is x
      ∙ (ap (λ (o : Option Entry). option_or o (option_or (in_more x) (option_or (in_tail x) (in_later x)))) (none_above 1 head x (omega (arith, lt)))
      ∙ (ap (λ (o : Option Entry). option_or o (option_or (in_tail x) (in_later x))) (none_above (1 + length head) more x (omega (arith, lt)))
      ∙ (ap (option_or (in_tail x)) (none_below (1 + length head + length more + length tail) later x (omega (arith, le))) ∙ none_after (in_tail x)))) in
      let narrow : entry_of (axioms_from 1 (head ++ tail)) i ≡ old =
      split_found 1 head tail i ∙ ap (λ (o : Option Entry). option_or o old) (none_above 1 head i (omega (arith, lt))) in
      ap (entry_of (axioms_from 1 (head ++ (more ++ (tail ++ later))))) same
      ∙ (wide ∙ (moved_up (1 + length head) (length more) tail i ∙ (ap (λ m. option_map (at_id m) old) (sym same)
      ∙ (sym (under_new s (1 + length head) tail i tails) ∙ ap (option_map (new_entry s)) (sym narrow)))))

  behind : length head + length tail < i → Names
  behind lt =
      let same : new ≡ i + (length more + length later) =
      new_behind s i ok (omega (arith, listed_is, lt)) ∙ ap (λ m. i + m) listed_goes in
      let x : ℕ = i + (length more + length later) in
      let wide : entry_of (axioms_from 1 (head ++ (more ++ (tail ++ later)))) x ≡ None =
      wide_is x
      ∙ (ap (λ (o : Option Entry). option_or o (option_or (in_more x) (option_or (in_tail x) (in_later x)))) (none_above 1 head x (omega (arith, lt)))
      ∙ (ap (λ (o : Option Entry). option_or o (option_or (in_tail x) (in_later x))) (none_above (1 + length head) more x (omega (arith, lt)))
      ∙ (ap (λ (o : Option Entry). option_or o (in_later x)) (none_above (1 + length head + length more) tail x (omega (arith, lt)))
      ∙ none_above (1 + length head + length more + length tail) later x (omega (arith, lt))))) in
      let narrow : entry_of (axioms_from 1 (head ++ tail)) i ≡ None =
      split_found 1 head tail i
      ∙ (ap (λ (o : Option Entry). option_or o (entry_of (axioms_from (1 + length head) tail) i)) (none_above 1 head i (omega (arith, lt)))
      ∙ none_above (1 + length head) tail i (omega (arith, lt))) in
      ap (entry_of (axioms_from 1 (head ++ (more ++ (tail ++ later))))) same ∙ (wide ∙ ap (option_map (new_entry s)) (sym narrow))

  named_clause : Names
  named_clause = elim (cases_lt (length head) i) [
    | inr le ↦ at_front le
    | inl lt ↦ elim (cases_lt (length head + length tail) i) [
      | inl far ↦ behind far
      | inr le ↦ in_list lt le
    ]
  ]

pub shift_is : (s : Shift) (p q : Problem) → IsWidened s p q → IsShift s
shift_is s p q w =
    let a = w.front_is in let b = w.listed_is in let c = w.front_goes in let d = w.listed_goes in
    record { front = omega (arith, a, b); goes = omega (arith, c, d) }

pub clauses_stay : (s : Shift) (p q : Problem) → IsWidened s p q → AllByRecursion (Stays s) p.clauses
clauses_stay s p q w =
    let stay = w.vars_stay in
    all_stay s p.vars p.clauses (omega (arith, stay)) (recursion_from_All (HasVariables p.vars) p.clauses w.range)

-- an id of the list names the same clause in the wider one
pub clause_named : (s : Shift) (p q : Problem) (i : ℕ) → IsWidened s p q →
    entry_of (axioms_from 1 q.clauses) (new_id s i) ≡ option_map (new_entry s) (entry_of (axioms_from 1 p.clauses) i)
clause_named s p q i w =
    let stay : AllByRecursion (Stays s) (w.head ++ w.tail) = subst (AllByRecursion (Stays s)) w.narrow (clauses_stay s p q w) in
    ap (λ (cs : List Clause). entry_of (axioms_from 1 cs) (new_id s i)) w.wide
    ∙ (named_clause s w.head w.tail w.more w.later i (shift_is s p q w) w.front_is w.front_goes w.listed_is w.listed_goes
    (left_part (Stays s) w.head w.tail stay) (right_part (Stays s) w.head w.tail stay)
    ∙ ap (λ (cs : List Clause). option_map (new_entry s) (entry_of (axioms_from 1 cs) i)) (sym w.narrow))
