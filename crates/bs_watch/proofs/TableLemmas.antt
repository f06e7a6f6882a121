-- The tables of a trail.
use Rattle.std.proofs.Common.{◌≡◌, ◌≢◌, ℕ, zero, suc, ◌+◌, ◌*◌, ◌^◌, ◌-◌, ◌<◌, ◌≤◌, arith, Bool, true, false, not, cond, List, [], ◌∷◌, ◌++◌, map}
use Rattle.std.proofs.Common.{length, get_or, set, replicate, refl, sym, ap, subst, ◌∙◌, inl, inr, ◌⊎◌, Option, Some, None, eqb}
use Rattle.std.specs.Prelude.{Contains, slice_get, IfSome, IfNone}
use Rattle.std.specs.List.{list_any, IsDistinct}
use Rattle.std.proofs.lemmas.Bool.{cases_lt, ne_eqb, eqb-true, or_cases, false≢true}
use Rattle.std.proofs.lemmas.List.{get_or-set_same, get_or-set_other, length-set, length-map, get_or-replicate, get_or_past, length-replicate}
use Rattle.std.proofs.lemmas.List.{length_push, map-append}
use Rattle.std.proofs.lemmas.Option.{get_or_from_slice_get}
use Rattle.std.proofs.lemmas.Map.Keys.{IsDistinct-from_apart}
use Rattle.std.proofs.lemmas.Map.Steps.{length-le_from_distinct_below}
use Rattle.bs_clause.specs.Literal.{Literal, negation, code_of}
use Rattle.bs_clause.specs.Range.{HasVariables, IsWithin}
use Rattle.bs_watch.specs.declared.cause.Cause.{Cause}
use Rattle.bs_arena.specs.Open.{HoldsOpen, AreAllAssigned, is_assigned}
use Rattle.bs_arena.proofs.CallerLemmas.{holds_assigned, holds_undone, neither}
use Rattle.bs_watch.specs.Trail.{IsOpenOn, IsAssignedOn, IsValueOn, AreAssignedBelow}
use Rattle.bs_watch.specs.Places.{Place, AreApart, IsPlaceOf, IsOnLevel, IsImpliedBy, HasNoReason, literals_of, variable_of, renamed_place}
use Rattle.bs_watch.specs.Tables.{IsTrail, AreDistinct, HasValues, no_cause, cause_of, place_with, places_in, value_of, renamed_cause}
use Rattle.bs_watch.proofs.Gets.{none_is_not_some, same_some, get_left, get_last, get_push_cases, get_from_Contains, Contains_from_get, get_map_cases}
use Rattle.bs_watch.proofs.Gets.{get_within, get_map}
use Rattle.bs_watch.proofs.Literals.{cases_literal, same_variable, code_of-injective}
use Rattle.bs_watch.proofs.Codes.{range_at, code_within}
use Rattle.bs_watch.proofs.Looks.{all_from_gets}

-- ---- places are literals with causes

pub literals_in : (causes : List Cause) (ls : List Literal) → literals_of (places_in causes ls) ≡ ls
literals_in causes [] = refl
literals_in causes (l ∷ ls) = ap (λ r. l ∷ r) (literals_in causes ls)

pub places_apart : (causes : List Cause) (ls : List Literal) → AreDistinct ls → AreApart (places_in causes ls)
places_apart causes ls d = record {
  apart = λ i j p q a b same.
      let (l, at_l, is_l) = get_map_cases (λ (l : Literal). place_with l (cause_of causes l)) ls i p a in
      let (m, at_m, is_m) = get_map_cases (λ (l : Literal). place_with l (cause_of causes l)) ls j q b in
      d.apart i j l m at_l at_m (ap variable_of is_l ∙ same ∙ ap variable_of (sym is_m));
}

-- another variable's cause changes no place of these
pub other_cause : (causes : List Cause) (ls : List Literal) (v : ℕ) (c : Cause) → ((k : ℕ) (l : Literal) → slice_get ls k ≡ Some l → l.variable ≢ v) →
    places_in (set causes v c) ls ≡ places_in causes ls
other_cause causes [] v c apart = refl
other_cause causes (l ∷ ls) v c apart =
    let head : place_with l (cause_of (set causes v c) l) ≡ place_with l (cause_of causes l) =
    ap (place_with l) (get_or-set_other causes v l.variable c no_cause (apart 0 l refl)) in
    let tail : places_in (set causes v c) ls ≡ places_in causes ls = other_cause causes ls v c (λ k m e. apart (suc k) m e) in
    λ i. head i ∷ tail i

-- the variable is not on the trail
pub open_apart : (ls : List Literal) (l : Literal) → IsOpenOn ls l → (k : ℕ) (m : Literal) → slice_get ls k ≡ Some m → m.variable ≢ l.variable
open_apart ls l o k m e same =
    let there : Contains ls m = Contains_from_get ls k m e in
    elim (same_variable m l same) [
      | inl is ↦ o.0 (subst (Contains ls) is there)
      | inr is ↦ o.1 (subst (Contains ls) is there)
    ]

pub assigned_places : (causes : List Cause) (ls : List Literal) (l : Literal) (c : Cause) → IsOpenOn ls l → l.variable < length causes →
    places_in (set causes l.variable c) (ls ++ l ∷ []) ≡ places_in causes ls ++ place_with l c ∷ []
assigned_places causes ls l c o within =
    let front : places_in (set causes l.variable c) ls ≡ places_in causes ls = other_cause causes ls l.variable c (open_apart ls l o) in
    let last : place_with l (cause_of (set causes l.variable c) l) ≡ place_with l c = ap (place_with l) (get_or-set_same causes l.variable c no_cause within) in
    map-append (λ (m : Literal). place_with m (cause_of (set causes l.variable c) m)) ls (l ∷ []) ∙ (λ i. front i ++ last i ∷ [])

renamed_at : (names : List (ℕ × ℕ)) (causes : List Cause) (v : ℕ) →
    get_or (map (renamed_cause names) causes) v no_cause ≡ renamed_cause names (get_or causes v no_cause)
renamed_at names [] v = refl
renamed_at names (c ∷ causes) zero = refl
renamed_at names (c ∷ causes) (suc v) = renamed_at names causes v

pub renamed_places : (names : List (ℕ × ℕ)) (causes : List Cause) (ls : List Literal) →
    places_in (map (renamed_cause names) causes) ls ≡ map (renamed_place names) (places_in causes ls)
renamed_places names causes [] = refl
renamed_places names causes (l ∷ ls) = λ i. place_with l (renamed_at names causes l.variable i) ∷ renamed_places names causes ls i

-- ---- no more literals than variables

pub at_most : (vars : ℕ) (ls : List Literal) → AreDistinct ls → HasVariables vars ls → length ls ≤ vars
at_most vars ls d range =
    let names : List ℕ = map (λ (l : Literal). l.variable - 1) ls in
    let distinct : IsDistinct eqb names = IsDistinct-from_apart eqb names (λ i j e before within.
    let in_j : j < length ls = omega (arith, within, length-map ls (λ (l : Literal). l.variable - 1)) in
    by_places i j e before in_j) in
    let below : (q : ℕ) → list_any (eqb q) names ≡ true → q < vars = λ q t. name_below ls q t (λ k l e. range_at vars ls k l range e) in
    omega (arith, length-le_from_distinct_below names vars distinct below, length-map ls (λ (l : Literal). l.variable - 1))
  where
    name_below : (xs : List Literal) (q : ℕ) → list_any (eqb q) (map (λ (l : Literal). l.variable - 1) xs) ≡ true →
        ((k : ℕ) (l : Literal) → slice_get xs k ≡ Some l → (1 ≤ l.variable) × (l.variable ≤ vars)) → q < vars
    name_below [] q t r = absurd (false≢true t)
    name_below (l ∷ xs) q t r =
        elim (or_cases (eqb q (l.variable - 1)) (list_any (eqb q) (map (λ (m : Literal). m.variable - 1) xs)) t) [
          | inl here ↦ let range = r 0 l refl in omega (arith, eqb-true q (l.variable - 1) here, range.0, range.1)
          | inr later ↦ name_below xs q later (λ k m e. r (suc k) m e)
        ]

    some_at : (xs : List Literal) (k : ℕ) → k < length xs → (l : Literal) × (slice_get xs k ≡ Some l)
    some_at [] k h = absurd (omega arith)
    some_at (x ∷ xs) zero h = (x, refl)
    some_at (x ∷ xs) (suc k) h = some_at xs k (omega arith)

    by_places : (i j e : ℕ) → i < j → j < length ls →
        eqb (get_or (map (λ (l : Literal). l.variable - 1) ls) i e) (get_or (map (λ (l : Literal). l.variable - 1) ls) j e) ≡ false
    by_places i j e before in_j =
        let (l, a) = some_at ls i (omega arith) in
        let (m, b) = some_at ls j in_j in
        let name_i : get_or (map (λ (x : Literal). x.variable - 1) ls) i e ≡ l.variable - 1 =
        get_or_from_slice_get (map (λ (x : Literal). x.variable - 1) ls) i (l.variable - 1) e (get_map (λ (x : Literal). x.variable - 1) ls i l a) in
        let name_j : get_or (map (λ (x : Literal). x.variable - 1) ls) j e ≡ m.variable - 1 =
        get_or_from_slice_get (map (λ (x : Literal). x.variable - 1) ls) j (m.variable - 1) e (get_map (λ (x : Literal). x.variable - 1) ls j m b) in
        ne_eqb (get_or (map (λ (x : Literal). x.variable - 1) ls) i e) (get_or (map (λ (x : Literal). x.variable - 1) ls) j e) (λ is.
        let range_l = range_at vars ls i l range a in
        let range_m = range_at vars ls j m range b in
        let same : l.variable ≡ m.variable = omega (arith, is, name_i, name_j, range_l.0, range_m.0) in
        let clash : i ≡ j = d.apart i j l m a b same in
        omega (arith, clash))

-- ---- no literals

no_value : (n : ℕ) (l : Literal) → value_of (replicate {A = Bool} n false) l ≡ false
no_value n l = elim (cases_lt (code_of l) n) [
  | inl within ↦ get_or-replicate {A = Bool} n (code_of l) false false within
  | inr past ↦ get_or_past {X = Bool} (replicate n false) (code_of l) false (omega (arith, length-replicate {A = Bool} n false))
]

nothing_in : {X : Type 0} (x : X) → Contains [] x → ⊥
nothing_in x c = let h : c.0 < 0 = c.1 in omega (arith, h)

pub new_trail : (vars n k o capacity : ℕ) → vars < 2 ^ 30 → n ≡ 2 * vars + 2 → k ≡ vars + 1 → o ≡ vars + 1 → vars ≤ capacity →
    IsTrail vars (replicate n false) (replicate k no_cause) [] (replicate o false) false capacity
new_trail vars n k o capacity small is_n is_k is_o room = record {
  small = small;
  values_are = record {
    holds = λ l e. absurd (false≢true (sym (no_value n l) ∙ e));
    noted = λ l c. absurd (nothing_in l c);
  };
  distinct = record { apart = λ i j l m a b same. absurd (none_is_not_some l a) };
  in_range = λ i d within. absurd (omega (arith, within));
  by_code = length-replicate {A = Bool} n false ∙ is_n;
  by_variable = length-replicate {A = Cause} k no_cause ∙ is_k;
  in_order = length-replicate {A = Bool} o false ∙ is_o;
  waits = λ on. absurd (false≢true on);
  room = room;
}

-- ---- one more literal

in_left : (ls : List Literal) (l m : Literal) → Contains ls m → Contains (ls ++ l ∷ []) m
in_left ls l m c = let (k, e) = get_from_Contains ls m c in Contains_from_get (ls ++ l ∷ []) k m (get_left ls (l ∷ []) k m e)

pub assigned_trail : (vars : ℕ) (values : List Bool) (causes : List Cause) (ls : List Literal) (order : List Bool) (is_ordered : Bool)
    (capacity after : ℕ) (l : Literal) (c : Cause) → IsTrail vars values causes ls order is_ordered capacity → IsOpenOn ls l → 1 ≤ l.variable → l.variable ≤ vars → vars ≤ after →
    IsTrail vars (set values (code_of l) true) (set causes l.variable c) (ls ++ l ∷ []) order is_ordered after
assigned_trail vars values causes ls order is_ordered capacity after l c t o low high room =
    let within : code_of l < length values = code_within vars (length values) l high t.by_code in
    record {
      small = t.small;
      values_are = record {
        holds = λ m e. elim (cases_literal m l) [
          | inl is ↦ subst (Contains (ls ++ l ∷ [])) (sym is) (Contains_from_get (ls ++ l ∷ []) (length ls) l (get_last ls l))
          | inr other ↦ in_left ls l m
              (t.values_are.holds m (sym (get_or-set_other values (code_of l) (code_of m) true false (λ same. other (code_of-injective m l same))) ∙ e))
        ];
        noted = λ m there. elim (cases_literal m l) [
          | inl is ↦ ap (λ x. value_of (set values (code_of l) true) x) is ∙ get_or-set_same values (code_of l) true false within
          | inr other ↦
              let (k, e) = get_from_Contains (ls ++ l ∷ []) m there in
              elim (get_push_cases ls l m k e) [
                | inl was ↦ get_or-set_other values (code_of l) (code_of m) true false (λ same. other (code_of-injective m l same))
                    ∙ t.values_are.noted m (Contains_from_get ls k m was)
                | inr last ↦ absurd (other (sym last.1))
              ]
        ];
      };
      distinct = record {
        apart = λ i j a b at_a at_b same. elim (get_push_cases ls l a i at_a) as (λ _. i ≡ j) [
          | inl there_a ↦ elim (get_push_cases ls l b j at_b) as (λ _. i ≡ j) [
            | inl there_b ↦ t.distinct.apart i j a b there_a there_b same
            | inr last_b ↦ absurd (open_apart ls l o i a there_a (same ∙ ap (λ (x : Literal). x.variable) (sym last_b.1)))
          ]
          | inr last_a ↦ elim (get_push_cases ls l b j at_b) as (λ _. i ≡ j) [
            | inl there_b ↦ absurd (open_apart ls l o j b there_b (sym same ∙ ap (λ (x : Literal). x.variable) (sym last_a.1)))
            | inr last_b ↦ last_a.0 ∙ sym last_b.0
          ]
        ];
      };
      in_range = all_from_gets _ (ls ++ l ∷ []) (λ k m e. elim (get_push_cases ls l m k e) [
        | inl was ↦ range_at vars ls k m t.in_range was
        | inr last ↦ subst (λ (x : Literal). (1 ≤ x.variable) × (x.variable ≤ vars)) last.1 (low, high)
      ]);
      by_code = length-set values (code_of l) true ∙ t.by_code;
      by_variable = length-set causes l.variable c ∙ t.by_variable;
      in_order = t.in_order;
      waits = λ on. holds_assigned order values (code_of l) (t.waits on);
      room = room;
    }

-- ---- one literal fewer

-- by its sign
code_cases : (l : Literal) → (code_of l ≡ 2 * l.variable) ⊎ (code_of l ≡ 2 * l.variable + 1)
code_cases l = by_sign l.positive refl
  where
    by_sign : (b : Bool) → l.positive ≡ b → (code_of l ≡ 2 * l.variable) ⊎ (code_of l ≡ 2 * l.variable + 1)
    by_sign true s = inl (ap (λ x. 2 * l.variable + cond x 0 1) s ∙ omega arith)
    by_sign false s = inr (ap (λ x. 2 * l.variable + cond x 0 1) s)

pub undone_trail : (vars : ℕ) (values : List Bool) (causes : List Cause) (ls front : List Literal) (order next : List Bool) (is_ordered : Bool)
    (capacity after : ℕ) (l : Literal) → IsTrail vars values causes ls order is_ordered capacity → ls ≡ front ++ l ∷ [] → length next ≡ length order →
    (is_ordered ≡ true → next ≡ set order l.variable true) → capacity ≤ after →
    IsTrail vars (set values (code_of l) false) causes front next is_ordered after
undone_trail vars values causes ls front order next is_ordered capacity after l old parts wide again room =
    let t : IsTrail vars values causes (front ++ l ∷ []) order is_ordered capacity =
    subst (λ xs. IsTrail vars values causes xs order is_ordered capacity) parts old in
    let last_at : slice_get (front ++ l ∷ []) (length front) ≡ Some l = get_last front l in
    let range = range_at vars (front ++ l ∷ []) (length front) l t.in_range last_at in
    let within : code_of l < length values = code_within vars (length values) l range.1 t.by_code in
    let back : (m : Literal) → m ≢ l → Contains (front ++ l ∷ []) m → Contains front m = λ m other there.
    let (k, e) = get_from_Contains (front ++ l ∷ []) m there in
    elim (get_push_cases front l m k e) [
      | inl was ↦ Contains_from_get front k m was
      | inr last ↦ absurd (other (sym last.1))
    ] in
    record {
      small = t.small;
      values_are = record {
        holds = λ m e. elim (cases_literal m l) [
          | inl is ↦ absurd (false≢true
              (sym (ap (λ x. value_of (set values (code_of l) false) x) is ∙ get_or-set_same values (code_of l) false false within) ∙ e))
          | inr other ↦ back m other
              (t.values_are.holds m (sym (get_or-set_other values (code_of l) (code_of m) false false (λ same. other (code_of-injective m l same))) ∙ e))
        ];
        noted = λ m there.
            let (k, e) = get_from_Contains front m there in
            let still = get_left front (l ∷ []) k m e in
            let other : m ≢ l = λ is.
            let clash : k ≡ length front = t.distinct.apart k (length front) m l still last_at (ap (λ (x : Literal). x.variable) is) in
            let inside = get_within front k m e in
            omega (arith, clash, inside) in
            get_or-set_other values (code_of l) (code_of m) false false (λ same. other (code_of-injective m l same))
            ∙ t.values_are.noted m (Contains_from_get (front ++ l ∷ []) k m still);
      };
      distinct =
          record { apart = λ i j a b at_a at_b same. t.distinct.apart i j a b (get_left front (l ∷ []) i a at_a) (get_left front (l ∷ []) j b at_b) same };
      in_range = all_from_gets _ front (λ k m e. range_at vars (front ++ l ∷ []) k m t.in_range (get_left front (l ∷ []) k m e));
      by_code = length-set values (code_of l) false ∙ t.by_code;
      by_variable = t.by_variable;
      in_order = wide ∙ t.in_order;
      waits = λ on. subst (λ o. HoldsOpen o (set values (code_of l) false)) (sym (again on))
          (holds_undone order values l.variable (code_of l) (code_cases l) (omega (arith, range.1, t.in_order)) (t.waits on));
      room = omega (arith, t.room, room);
    }

-- ---- what is read of the tables

pub places_room : (vars : ℕ) (causes : List Cause) (ls : List Literal) → AreDistinct ls → HasVariables vars ls → length (places_in causes ls) ≤ vars
places_room vars causes ls d range =
    let few = at_most vars ls d range in
    omega (arith, few, length-map ls (λ (l : Literal). place_with l (cause_of causes l)))

pub place_there : (causes : List Cause) (ls : List Literal) (k : ℕ) (l : Literal) → slice_get ls k ≡ Some l →
    slice_get (places_in causes ls) k ≡ Some (place_with l (cause_of causes l))
place_there causes ls k l e = get_map (λ (m : Literal). place_with m (cause_of causes m)) ls k l e

pub assigned_range : (vars : ℕ) (ls : List Literal) (l : Literal) → HasVariables vars ls → IsAssignedOn ls l → (1 ≤ l.variable) × (l.variable ≤ vars)
assigned_range vars ls l range (inl holds) = let (k, e) = get_from_Contains ls l holds in range_at vars ls k l range e
assigned_range vars ls l range (inr lost) = let (k, e) = get_from_Contains ls (negation l) lost in range_at vars ls k (negation l) range e

-- the place of a variable that has a value
pub place_of : (causes : List Cause) (ls : List Literal) (l : Literal) → IsAssignedOn ls l →
    (p : Place) × IsPlaceOf (places_in causes ls) l p × (p.level ≡ (cause_of causes l).level) × (p.reason ≡ (cause_of causes l).reason)
place_of causes ls l (inl holds) =
    let (k, e) = get_from_Contains ls l holds in
    (place_with l (cause_of causes l), record { at = k; there = place_there causes ls k l e; same = refl }, refl, refl)
place_of causes ls l (inr lost) =
    let (k, e) = get_from_Contains ls (negation l) lost in
    (place_with (negation l) (cause_of causes l), record { at = k; there = place_there causes ls k (negation l) e; same = refl }, refl, refl)

pub on_level : (causes : List Cause) (ls : List Literal) (l : Literal) → IsAssignedOn ls l → IsOnLevel (places_in causes ls) l (cause_of causes l).level
on_level causes ls l a = let (p, is, level, reason) = place_of causes ls l a in (p, is, level)

-- a variable has one level
pub one_level : (places : List Place) (l : Literal) (i j : ℕ) → AreApart places → IsOnLevel places l i → IsOnLevel places l j → i ≡ j
one_level places l i j a x y =
    let same : x.1.at ≡ y.1.at = a.apart x.1.at y.1.at x.0 y.0 x.1.there y.1.there (x.1.same ∙ sym y.1.same) in
    sym x.2 ∙ ap (λ (p : Place). p.level) (same_some x.0 y.0 (sym x.1.there ∙ ap (slice_get places) same ∙ y.1.there)) ∙ y.2

pub implied_by : (causes : List Cause) (ls : List Literal) (l : Literal) (o : Option ℕ) → IsAssignedOn ls l → (cause_of causes l).reason ≡ o →
    IfSome o (IsImpliedBy (places_in causes ls) l)
implied_by causes ls l None a is = tt
implied_by causes ls l (Some r) a is = let (p, at, level, reason) = place_of causes ls l a in (p, at, reason ∙ is)

cause_at : (causes : List Cause) (ls : List Literal) (l : Literal) (p : Place) → IsPlaceOf (places_in causes ls) l p →
    (p.reason ≡ (cause_of causes l).reason) × IsAssignedOn ls l
cause_at causes ls l p at =
    let (m, there, is) = get_map_cases (λ (x : Literal). place_with x (cause_of causes x)) ls at.at p at.there in
    let same : m.variable ≡ l.variable = ap variable_of is ∙ at.same in
    let stands : Contains ls m = Contains_from_get ls at.at m there in (
      ap (λ (q : Place). q.reason) (sym is) ∙ ap (λ v. (get_or causes v no_cause).reason) same,
      elim (same_variable m l same) [
        | inl x ↦ inl (subst (Contains ls) x stands)
        | inr x ↦ inr (subst (Contains ls) x stands)
      ],
    )

pub not_implied : (causes : List Cause) (ls : List Literal) (l : Literal) (o : Option ℕ) → (cause_of causes l).reason ≡ o →
    IfNone o (HasNoReason (places_in causes ls) l)
not_implied causes ls l None is = record { none = λ p at. (cause_at causes ls l p at).0 ∙ is }
not_implied causes ls l (Some r) is = tt

pub open_not_implied : (causes : List Cause) (ls : List Literal) (l : Literal) → IsOpenOn ls l → HasNoReason (places_in causes ls) l
open_not_implied causes ls l o = record {
  none = λ p at. absurd (elim (cause_at causes ls l p at).1 [ inl holds ↦ o.0 holds | inr lost ↦ o.1 lost ]);
}

pub value_assigned : (trail : List Literal) (l : Literal) (b : Bool) → IsValueOn trail l (Some b) → IsAssignedOn trail l
value_assigned trail l true is = inl is
value_assigned trail l false is = inr is

-- ---- one of a variable's two literals is true

-- by the two codes of a variable
pub either_true : (values : List Bool) (l : Literal) (v : ℕ) → l.variable ≡ v →
    (get_or values (2 * v) false ≡ true) ⊎ (get_or values (2 * v + 1) false ≡ true) →
    (value_of values l ≡ true) ⊎ (value_of values (negation l) ≡ true)
either_true values l v is some = by_sign l.positive refl
  where
    by_sign : (b : Bool) → l.positive ≡ b → (value_of values l ≡ true) ⊎ (value_of values (negation l) ≡ true)
    by_sign true s = elim some [
      | inl even ↦ inl (ap (λ k. get_or values k false) (ap (λ x. 2 * l.variable + cond x 0 1) s ∙ omega (arith, is)) ∙ even)
      | inr odd ↦ inr (ap (λ k. get_or values k false) (ap (λ x. 2 * l.variable + cond (not x) 0 1) s ∙ omega (arith, is)) ∙ odd)
    ]
    by_sign false s = elim some [
      | inl even ↦ inr (ap (λ k. get_or values k false) (ap (λ x. 2 * l.variable + cond (not x) 0 1) s ∙ omega (arith, is)) ∙ even)
      | inr odd ↦ inl (ap (λ k. get_or values k false) (ap (λ x. 2 * l.variable + cond x 0 1) s ∙ omega (arith, is)) ∙ odd)
    ]

pub neither_true : (values : List Bool) (l : Literal) (v : ℕ) → l.variable ≡ v → get_or values (2 * v) false ≡ false → get_or values (2 * v + 1) false ≡ false →
    (value_of values l ≡ false) × (value_of values (negation l) ≡ false)
neither_true values l v is even odd = by_sign l.positive refl
  where
    by_sign : (b : Bool) → l.positive ≡ b → (value_of values l ≡ false) × (value_of values (negation l) ≡ false)
    by_sign true s = (
      ap (λ k. get_or values k false) (ap (λ x. 2 * l.variable + cond x 0 1) s ∙ omega (arith, is)) ∙ even,
      ap (λ k. get_or values k false) (ap (λ x. 2 * l.variable + cond (not x) 0 1) s ∙ omega (arith, is)) ∙ odd,
    )
    by_sign false s = (
      ap (λ k. get_or values k false) (ap (λ x. 2 * l.variable + cond x 0 1) s ∙ omega (arith, is)) ∙ odd,
      ap (λ k. get_or values k false) (ap (λ x. 2 * l.variable + cond (not x) 0 1) s ∙ omega (arith, is)) ∙ even,
    )

-- a variable without a value is open
pub open_here : (values : List Bool) (ls : List Literal) (v : ℕ) → HasValues values ls → is_assigned values v ≡ false → (l : Literal) → l.variable ≡ v →
    IsOpenOn ls l
open_here values ls v has none l same =
    let both = neither (get_or values (2 * v) false) (get_or values (2 * v + 1) false) none in
    let (not_true, not_false) = neither_true values l v same both.0 both.1 in (
      λ c. false≢true (sym not_true ∙ has.noted l c),
      λ c. false≢true (sym not_false ∙ has.noted (negation l) c),
    )

-- where each variable has a value, none is open
pub all_here : (values : List Bool) (ls : List Literal) (past : ℕ) → HasValues values ls → AreAllAssigned past values → AreAssignedBelow ls past
all_here values ls past has all = record {
  each = λ l low before. elim (either_true values l l.variable refl
      (or_cases (get_or values (2 * l.variable) false) (get_or values (2 * l.variable + 1) false) (all.each l.variable low before))) [
        | inl holds ↦ inl (has.holds l holds)
        | inr lost ↦ inr (has.holds (negation l) lost)
      ];
}

pub if_some_more : {X : Type 0} (P Q : X → Type 0) (o : Option X) → ((x : X) → P x → Q x) → IfSome o P → IfSome o Q
if_some_more P Q None more h = tt
if_some_more P Q (Some x) more h = more x h

pub if_none_more : {X : Type 0} (P Q : Type 0) (o : Option X) → (P → Q) → IfNone o P → IfNone o Q
if_none_more P Q None more h = more h
if_none_more P Q (Some x) more h = tt

-- ---- the order of decisions

-- it is filled
pub filled_trail : (vars : ℕ) (values : List Bool) (causes : List Cause) (ls : List Literal) (order next : List Bool) (is_ordered : Bool) (capacity : ℕ) →
    IsTrail vars values causes ls order is_ordered capacity → length next ≡ length order → HoldsOpen next values →
    IsTrail vars values causes ls next true capacity
filled_trail vars values causes ls order next is_ordered capacity t wide holds = record {
  small = t.small;
  values_are = t.values_are;
  distinct = t.distinct;
  in_range = t.in_range;
  by_code = t.by_code;
  by_variable = t.by_variable;
  in_order = wide ∙ t.in_order;
  waits = λ on. holds;
  room = t.room;
}

-- it is given up, or not
pub left_trail : (vars : ℕ) (values : List Bool) (causes : List Cause) (ls : List Literal) (order : List Bool) (is_ordered stays : Bool) (capacity : ℕ) →
    IsTrail vars values causes ls order is_ordered capacity → (stays ≡ true → is_ordered ≡ true) → IsTrail vars values causes ls order stays capacity
left_trail vars values causes ls order is_ordered stays capacity t only = record {
  small = t.small;
  values_are = t.values_are;
  distinct = t.distinct;
  in_range = t.in_range;
  by_code = t.by_code;
  by_variable = t.by_variable;
  in_order = t.in_order;
  waits = λ on. t.waits (only on);
  room = t.room;
}

-- ---- one more variable

get_past : {X : Type 0} (xs : List X) (x : X) (k : ℕ) → get_or (xs ++ x ∷ []) k x ≡ get_or xs k x
get_past [] x zero = refl
get_past [] x (suc k) = refl
get_past (y ∷ xs) x zero = refl
get_past (y ∷ xs) x (suc k) = get_past xs x k

get_past_two : {X : Type 0} (xs : List X) (x : X) (k : ℕ) → get_or (xs ++ x ∷ x ∷ []) k x ≡ get_or xs k x
get_past_two [] x zero = refl
get_past_two [] x (suc zero) = refl
get_past_two [] x (suc (suc k)) = refl
get_past_two (y ∷ xs) x zero = refl
get_past_two (y ∷ xs) x (suc k) = get_past_two xs x k

pub grown_places : (causes : List Cause) (ls : List Literal) → places_in (causes ++ no_cause ∷ []) ls ≡ places_in causes ls
grown_places causes [] = refl
grown_places causes (l ∷ ls) = λ i. place_with l (get_past causes no_cause l.variable i) ∷ grown_places causes ls i

pub length_two : {X : Type 0} (xs : List X) (x y : X) → length (xs ++ x ∷ y ∷ []) ≡ length xs + 2
length_two [] x y = refl
length_two (z ∷ xs) x y = let h = length_two xs x y in omega (arith, h)

pub grown_trail : (vars : ℕ) (values : List Bool) (causes : List Cause) (ls : List Literal) (order : List Bool) (is_ordered : Bool)
    (capacity after : ℕ) → IsTrail vars values causes ls order is_ordered capacity → vars + 1 < 2 ^ 30 → vars + 1 ≤ after →
    IsTrail (vars + 1) (values ++ false ∷ false ∷ []) (causes ++ no_cause ∷ []) ls (order ++ false ∷ []) false after
grown_trail vars values causes ls order is_ordered capacity after t small room = record {
  small = small;
  values_are = record {
    holds = λ l e. t.values_are.holds l (sym (get_past_two values false (code_of l)) ∙ e);
    noted = λ l there. get_past_two values false (code_of l) ∙ t.values_are.noted l there;
  };
  distinct = t.distinct;
  in_range = all_from_gets (IsWithin (vars + 1)) ls (λ k l e. let h = range_at vars ls k l t.in_range e in (h.0, omega (arith, h.1)));
  by_code = omega (arith, t.by_code, length_two values false false);
  by_variable = omega (arith, t.by_variable, length_push causes no_cause);
  in_order = omega (arith, t.in_order, length_push order false);
  waits = λ on. absurd (false≢true on);
  room = room;
}

pub roomier_trail : (vars : ℕ) (values : List Bool) (causes : List Cause) (ls : List Literal) (order : List Bool) (is_ordered : Bool)
    (capacity after : ℕ) → IsTrail vars values causes ls order is_ordered capacity → capacity ≤ after →
    IsTrail vars values causes ls order is_ordered after
roomier_trail vars values causes ls order is_ordered capacity after t more = record {
  small = t.small;
  values_are = t.values_are;
  distinct = t.distinct;
  in_range = t.in_range;
  by_code = t.by_code;
  by_variable = t.by_variable;
  in_order = t.in_order;
  waits = t.waits;
  room = omega (arith, t.room, more);
}
