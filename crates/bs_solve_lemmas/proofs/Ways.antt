-- Ways along the implications, from the level's first place to the conflict.
use Rattle.std.proofs.Common.{◌≡◌, ◌≢◌, ℕ, zero, suc, ◌+◌, ◌<◌, ◌≤◌, arith, true, List, [], ◌∷◌, take, refl, sym, ap, subst, ◌∙◌, inl, inr, ◌⊎◌}
use Rattle.std.proofs.Common.{Option, Some, None}
use Rattle.std.specs.Prelude.{All, Contains, slice_get, is_some}
use Rattle.std.proofs.lemmas.Bool.{cases_lt, false≢true}
use Rattle.std.proofs.lemmas.List.Elements.{All-contains, All-cons, All-nil}
use Rattle.bs_clause.specs.Literal.{Clause, negation}
use Rattle.bs_arena.specs.Arena.{Held}
use Rattle.bs_watch.specs.Places.{Place, literals_of}
use Rattle.bs_solve_lemmas.specs.Reasons.{live_clauses}
use Rattle.bs_watch.specs.Trail.{IsFalseOn, IsUnit, IsQuiet}
use Rattle.bs_solve_lemmas.specs.ImplicationPoint.{IsLastDecision, DeniesAt, ImpliedWith, LeadsTo, Bypasses}
use Rattle.bs_watch.proofs.Gets.{get_take, take_get, Contains_from_get, get_map}
use Rattle.bs_solve_lemmas.proofs.Walkable.{IsWalkable, live_contains}
use Rattle.bs_solve_lemmas.proofs.Clauses.{contains_cases, all_from}
use Rattle.bs_watch.proofs.Literals.{negation-negation}
use Rattle.bs_solve_lemmas.proofs.Fronts.{place_of, open_earlier}
use Rattle.bs_solve_lemmas.proofs.Others.{alone_or_another}

-- a way from a place, of which the walk has looked at the further places
pub record WayFrom (clauses : List Held) (places : List Place) (conflict down at : ℕ) : Type 0 where
  pub way : List ℕ
  pub leads : LeadsTo clauses places conflict (at ∷ way)
  pub later : All (λ j. down ≤ j) way

pub way_start : (clauses : List Held) (places : List Place) (conflict down at : ℕ) → DeniesAt clauses places conflict at →
    WayFrom clauses places conflict down at
way_start clauses places conflict down at d = record { way = []; leads = d; later = All-nil (λ j. down ≤ j) }

pub way_past : (clauses : List Held) (places : List Place) (conflict i at : ℕ) → WayFrom clauses places conflict (suc i) at →
    WayFrom clauses places conflict i at
way_past clauses places conflict i at w = record {
  way = w.way;
  leads = w.leads;
  later = all_from (λ j. i ≤ j) w.way (λ j t. let h : suc i ≤ j = All-contains (λ x. suc i ≤ x) w.way j w.later t in omega (arith, h));
}

pub way_step : (clauses : List Held) (places : List Place) (conflict i at : ℕ) → ImpliedWith clauses places at i →
    WayFrom clauses places conflict (suc i) i → WayFrom clauses places conflict i at
way_step clauses places conflict i at f w = record {
  way = i ∷ w.way;
  leads = (f, w.leads);
  later = All-cons (λ j. i ≤ j) i w.way (omega arith)
      (all_from (λ j. i ≤ j) w.way (λ j t. let h : suc i ≤ j = All-contains (λ x. suc i ≤ x) w.way j w.later t in omega (arith, h)));
}

reason_of : (o : Option ℕ) → is_some o ≡ true → (r : ℕ) × (o ≡ Some r)
reason_of None e = absurd (false≢true e)
reason_of (Some r) e = (r, refl)

-- an earlier place of the level that had a part in a later one
record StepBack (clauses : List Held) (places : List Place) (start at : ℕ) : Type 0 where
  earlier : ℕ
  place : Place
  there : slice_get places earlier ≡ Some place
  low : start ≤ earlier
  before : earlier < at
  implied : ImpliedWith clauses places earlier at

step_back : (clauses : List Held) (places : List Place) (start at : ℕ) (p : Place) → IsWalkable clauses places → IsLastDecision places start →
    IsQuiet (literals_of (take start places)) (live_clauses clauses) → slice_get places at ≡ Some p → start < at → StepBack clauses places start at
step_back clauses places start at p sound last quiet there above =
    let (r, is) = reason_of p.reason (last.implied at p above there) in
    let f = (sound.placed at p there).implied r is in
    let c : Clause = f.0 in
    elim (alone_or_another (literals_of (take start places)) p.literal c) [
      | inl alone ↦ absurd (All-contains (λ x. ¬ IsUnit (literals_of (take start places)) x) (live_clauses clauses) c quiet.no_unit
          (live_contains clauses r c f.1) (record {
            literal = p.literal;
            stands = f.2.stands;
            unassigned = open_earlier (λ (x : Place). x.literal) places start at p.literal (omega (arith, above)) f.2.unassigned;
            others = all_from (λ m. (m ≡ p.literal) ⊎ IsFalseOn (literals_of (take start places)) m) c alone;
          }))
      | inr one ↦
          let false_one : IsFalseOn (literals_of (take at places)) one.literal =
          elim (All-contains (λ x. (x ≡ p.literal) ⊎ IsFalseOn (literals_of (take at places)) x) c one.literal f.2.others one.stands) [
            | inl same ↦ absurd (one.other (sym same))
            | inr false_m ↦ false_m
          ] in
          let (j, q, at_j, is_q) = place_of (λ (x : Place). x.literal) (take at places) (negation one.literal) false_one in
          let early = get_take at places j q at_j in
          elim (cases_lt j start) [
            | inl under ↦ absurd (one.not_false (Contains_from_get (literals_of (take start places)) j (negation one.literal)
                (get_map (λ (x : Place). x.literal) (take start places) j q (take_get start places j q under early.1) ∙ ap Some is_q)))
            | inr past ↦ record {
              earlier = j;
              place = q;
              there = early.1;
              low = past;
              before = early.0;
              implied = record {
                place = p;
                there = there;
                reason = r;
                is = is;
                denies = record {
                  place = q;
                  there = early.1;
                  denied = subst (λ x. Contains x (negation q.literal)) (sym (f.1.is))
                      (subst (Contains c) (sym (ap negation is_q ∙ negation-negation one.literal)) one.stands);
                };
              };
            }
          ]
    ]

-- what leads back to the level's first place
pub record Climbed (clauses : List Held) (places : List Place) (conflict start at : ℕ) (way : List ℕ) : Type 0 where
  pub whole : List ℕ
  pub leads : LeadsTo clauses places conflict (start ∷ whole)
  pub members : All (λ j. (j ≤ at) ⊎ Contains way j) (start ∷ whole)

climbed_here : (clauses : List Held) (places : List Place) (conflict start at : ℕ) (way : List ℕ) → at ≡ start → LeadsTo clauses places conflict (at ∷ way) →
    Climbed clauses places conflict start at way
climbed_here clauses places conflict start at way same leads = record {
  whole = way;
  leads = subst (λ k. LeadsTo clauses places conflict (k ∷ way)) same leads;
  members = All-cons (λ j. (j ≤ at) ⊎ Contains way j) start way (inl (omega (arith, same))) (all_from (λ j. (j ≤ at) ⊎ Contains way j) way (λ j t. inr t));
}

climbed_later : (clauses : List Held) (places : List Place) (conflict start j at : ℕ) (way : List ℕ) → j < at →
    Climbed clauses places conflict start j (at ∷ way) →
    Climbed clauses places conflict start at way
climbed_later clauses places conflict start j at way before rest = record {
  whole = rest.whole;
  leads = rest.leads;
  members = all_from (λ x. (x ≤ at) ⊎ Contains way x) (start ∷ rest.whole) (λ x t.
      elim (All-contains (λ y. (y ≤ j) ⊎ Contains (at ∷ way) y) (start ∷ rest.whole) x rest.members t) as (λ _. (x ≤ at) ⊎ Contains way x) [
        | inl small ↦ inl (omega (arith, small, before))
        | inr member ↦ elim (contains_cases at way x member) as (λ _. (x ≤ at) ⊎ Contains way x) [
          | inl same ↦ inl (omega (arith, same))
          | inr old ↦ inr old
        ]
      ]);
}

pub climb : (clauses : List Held) (places : List Place) (conflict start : ℕ) → IsWalkable clauses places → IsLastDecision places start →
    IsQuiet (literals_of (take start places)) (live_clauses clauses) → (n at : ℕ) (p : Place) (way : List ℕ) → slice_get places at ≡ Some p →
    start ≤ at → at ≤ start + n →
    LeadsTo clauses places conflict (at ∷ way) → Climbed clauses places conflict start at way
climb clauses places conflict start sound last quiet zero at p way there low high leads =
    climbed_here clauses places conflict start at way (omega (arith, low, high)) leads
climb clauses places conflict start sound last quiet (suc n) at p way there low high leads = elim (cases_lt start at) [
  | inr first ↦ climbed_here clauses places conflict start at way (omega (arith, low, first)) leads
  | inl above ↦
      let s : StepBack clauses places start at = step_back clauses places start at p sound last quiet there above in
      let before : s.earlier < at = s.before in
      climbed_later clauses places conflict start s.earlier at way before
      (climb clauses places conflict start sound last quiet n s.earlier s.place (at ∷ way) s.there s.low (omega (arith, high, before)) (s.implied, leads))
]

-- a place between a marked one and the further places of its way is bypassed
pub bypass : (clauses : List Held) (places : List Place) (conflict start i at : ℕ) (p : Place) → IsWalkable clauses places → IsLastDecision places start →
    IsQuiet (literals_of (take start places)) (live_clauses clauses) → slice_get places at ≡ Some p → start ≤ at → at < i →
    WayFrom clauses places conflict (suc i) at → Bypasses clauses places conflict start i
bypass clauses places conflict start i at p sound last quiet there low under w =
    let c : Climbed clauses places conflict start at w.way =
    climb clauses places conflict start sound last quiet at at p w.way there low (omega arith) w.leads in
    record {
      way = c.whole;
      leads = c.leads;
      apart = all_from (λ k. k ≢ i) (start ∷ c.whole) (λ k t same.
          elim (All-contains (λ j. (j ≤ at) ⊎ Contains w.way j) (start ∷ c.whole) k c.members t) [
            | inl small ↦ omega (arith, small, same, under)
            | inr member ↦ let h : suc i ≤ k = All-contains (λ j. suc i ≤ j) w.way k w.later member in omega (arith, h, same)
          ]);
    }
