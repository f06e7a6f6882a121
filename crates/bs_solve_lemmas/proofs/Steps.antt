-- The steps of the two walks, as the literals and reasons are read from the trail.
use Rattle.std.proofs.Common.{◌≡◌, ◌≢◌, ℕ, ◌+◌, ◌-◌, ◌<◌, ◌≤◌, arith, true, false, List, [], ◌∷◌, ◌++◌, length, take, drop, refl, sym, ap, subst}
use Rattle.std.proofs.Common.{◌∙◌, inl, inr, ◌⊎◌, Option, Some, None}
use Rattle.std.specs.Prelude.{All, Contains, slice_get, is_some}
use Rattle.std.proofs.lemmas.List.Elements.{All-contains}
use Rattle.bs_clause.specs.Literal.{Literal, Clause, negation}
use Rattle.bs_clause.specs.Range.{IsWithin, HasVariables}
use Rattle.bs_log.specs.Refusal.{has_distinct_variables}
use Rattle.bs_arena.specs.Arena.{Held, held_at, literals_at}
use Rattle.bs_watch.specs.declared.watch.Level.{Level}
use Rattle.bs_watch.specs.Trail.{IsFalseOn, IsQuiet}
use Rattle.bs_watch.specs.Places.{Place, literals_of, AreApart, IsLiteralAt}
use Rattle.bs_watch.proofs.Gets.{same_some}
use Rattle.bs_solve_lemmas.specs.Reasons.{live_clauses, IsReasoned, IsConflictAt, AreSpared, IsBelowLevels}
use Rattle.bs_solve_lemmas.specs.AnalysisWalk.{IsLearnt}
use Rattle.bs_solve_lemmas.specs.ImplicationPoint.{IsFirstPoint, IsLastDecision, IsReasonless, IsReasonIn}
use Rattle.bs_solve_lemmas.specs.Marks.{MarkState, is_marked, marks_in, unmarked, IsClear, AreWithin, HasMarked, HasTraded, HasCounted, HasMoved}
use Rattle.bs_solve_lemmas.proofs.Clauses.{all_from}
use Rattle.bs_solve_lemmas.proofs.Walkable.{IsClauseAt, sound, live_contains}
use Rattle.bs_solve_lemmas.proofs.MarkWalks.{count_first_marks, denied_at, taken, taken_at, Taken}
use Rattle.bs_solve_lemmas.proofs.Pointing.{PointMarks, FinalMarks, above_start, point_start, point_past, point_step, point_end, point_implied, final_start}
use Rattle.bs_solve_lemmas.proofs.Pointing.{final_past, final_step, final_end, reason_known, stands_behind}

-- ---- what is read

-- the reason of a place whose literal is known
reason_is : (places : List Place) (k : ℕ) (l : Literal) (o : Option ℕ) (at : IsLiteralAt places k l) → IsReasonIn places k o → at.0.reason ≡ o
reason_is places k l o at r = ap (λ (p : Place). p.reason) (same_some at.0 r.0 (sym at.1 ∙ r.1)) ∙ r.2

marked_at : (places : List Place) (k : ℕ) (l : Literal) (s : MarkState) (at : IsLiteralAt places k l) → is_marked s l ≡ true → is_marked s at.0.literal ≡ true
marked_at places k l s at on = ap (is_marked s) at.2 ∙ on

-- the reason of a place is live
reason_live : (clauses : List Held) (places : List Place) (k : ℕ) (l : Literal) (r : ℕ) → IsReasoned clauses places → IsLiteralAt places k l →
    IsReasonIn places k (Some r) → is_some (held_at clauses r) ≡ true
reason_live clauses places k l r reasons at is = (reasons.reasoned k at.0 r at.1 (reason_is places k l (Some r) at is)).0

clause_is : (clauses : List Held) (r : ℕ) → is_some (held_at clauses r) ≡ true → IsClauseAt clauses r (literals_at clauses r)
clause_is clauses r live = record { live = live; is = refl }

-- the marks have a place for each variable of a live clause
pub clause_within : (clauses : List Held) (r vars : ℕ) (s : MarkState) → is_some (held_at clauses r) ≡ true → All (HasVariables vars) (live_clauses clauses) →
    length s.flags ≡ vars + 1 → AreWithin s (literals_at clauses r)
clause_within clauses r vars s live range flags =
    all_from (λ l. l.variable < length s.flags) (literals_at clauses r) (λ l there.
    let c : HasVariables vars (literals_at clauses r) =
    All-contains (HasVariables vars) (live_clauses clauses) (literals_at clauses r) range
    (live_contains clauses r (literals_at clauses r) (clause_is clauses r live)) in
    let within = (All-contains (IsWithin vars) (literals_at clauses r) l c there).1 in
    omega (arith, within, flags))

-- what a trade asks of the reason
pub record MayTrade (clauses : List Held) (places : List Place) (s : MarkState) (r : ℕ) : Type 0 where
  pub live : is_some (held_at clauses r) ≡ true
  pub range : AreWithin s (literals_at clauses r)
  pub known : All (λ m. (is_marked s m ≡ true) ⊎ IsFalseOn (literals_of places) m) (literals_at clauses r)

pub may_trade : (clauses : List Held) (places : List Place) (k vars : ℕ) (s : MarkState) (l : Literal) (r : ℕ) → AreApart places → IsReasoned clauses places →
    All (HasVariables vars) (live_clauses clauses) → length s.flags ≡ vars + 1 → IsLiteralAt places k l → IsReasonIn places k (Some r) → is_marked s l ≡ true →
    MayTrade clauses places s r
may_trade clauses places k vars s l r apart reasons range flags at is on = record {
  live = reason_live clauses places k l r reasons at is;
  range = clause_within clauses r vars s (reason_live clauses places k l r reasons at is) range flags;
  known = reason_known clauses places k s at.0 r (sound clauses places apart reasons) at.1 (reason_is places k l (Some r) at is) (marked_at places k l s at on);
}

-- ---- down to the point

pub at_start : (clauses : List Held) (places : List Place) (start vars conflict : ℕ) (s0 s : MarkState) (hints : List ℕ) (ahead down : ℕ) →
    AreApart places → IsReasoned clauses places → All (HasVariables vars) (live_clauses clauses) →
    All (λ c. has_distinct_variables c ≡ true) (live_clauses clauses) →
    IsConflictAt clauses (literals_of places) conflict → IsQuiet (literals_of (take start places)) (live_clauses clauses) → IsClear (vars + 1) s0 →
    HasMarked s0 s (literals_at clauses conflict) → marks_in s (drop start places) ≡ ahead + marks_in s0 (drop start places) →
    down ≡ length places → hints ≡ conflict ∷ [] → PointMarks clauses places conflict start down vars s hints ahead
at_start clauses places start vars conflict s0 s hints ahead down apart reasons range distinct lost quiet clear marked count is_down is_hints =
    let c : Clause = literals_at clauses conflict in
    let there : IsClauseAt clauses conflict c = clause_is clauses conflict lost.live in
    let inside : Contains (live_clauses clauses) c = live_contains clauses conflict c there in
    point_start clauses places start vars conflict c s0 s hints ahead down (sound clauses places apart reasons) there
    (All-contains (λ x. has_distinct_variables x ≡ true) (live_clauses clauses) c distinct inside) lost.lost
    (All-contains (HasVariables vars) (live_clauses clauses) c range inside) quiet clear marked
    (count_first_marks (vars + 1) ahead s0 s (drop start places) clear count) is_down is_hints

pub walk_above : (clauses : List Held) (places : List Place) (conflict start down vars : ℕ) (s : MarkState) (hints : List ℕ) (ahead : ℕ) →
    AreApart places → IsReasoned clauses places → PointMarks clauses places conflict start down vars s hints ahead → start < down
walk_above clauses places conflict start down vars s hints ahead apart reasons w =
    above_start clauses places conflict start down vars s hints ahead (sound clauses places apart reasons) w

pub past_point : (clauses : List Held) (places : List Place) (conflict start down vars : ℕ) (s : MarkState) (hints : List ℕ) (ahead : ℕ) (l : Literal) →
    AreApart places → IsReasoned clauses places → IsLastDecision places start → IsQuiet (literals_of (take start places)) (live_clauses clauses) →
    IsLiteralAt places (down - 1) l → is_marked s l ≡ false → PointMarks clauses places conflict start down vars s hints ahead →
    PointMarks clauses places conflict start (down - 1) vars s hints ahead
past_point clauses places conflict start down vars s hints ahead l apart reasons last quiet at off w =
    let above = walk_above clauses places conflict start down vars s hints ahead apart reasons w in
    point_past clauses places conflict start down (down - 1) vars s hints ahead at.0 (sound clauses places apart reasons) last quiet
    (omega (arith, above)) at.1 (ap (is_marked s) at.2 ∙ off) w

pub traded_point : (clauses : List Held) (places : List Place) (conflict start down vars : ℕ) (s now : MarkState) (hints next : List ℕ)
    (ahead more : ℕ) (l : Literal) (r : ℕ) →
    AreApart places → IsReasoned clauses places → IsLastDecision places start → IsQuiet (literals_of (take start places)) (live_clauses clauses) →
    All (HasVariables vars) (live_clauses clauses) → All (λ c. has_distinct_variables c ≡ true) (live_clauses clauses) →
    IsLiteralAt places (down - 1) l → IsReasonIn places (down - 1) (Some r) → is_marked s l ≡ true → ahead ≢ 1 →
    HasTraded s now (literals_at clauses r) l → HasCounted places start s now l more → next ≡ hints ++ r ∷ [] →
    PointMarks clauses places conflict start down vars s hints ahead → PointMarks clauses places conflict start (down - 1) vars now next (ahead - 1 + more)
traded_point clauses places conflict start down vars s now hints next ahead more l r apart reasons last quiet range distinct at is on many traded
    counts is_next w =
    let above = walk_above clauses places conflict start down vars s hints ahead apart reasons w in
    let behind : Contains (literals_of (drop start places)) l =
    subst (Contains (literals_of (drop start places))) at.2 (stands_behind places start (down - 1) at.0 (omega (arith, above)) at.1) in
    let count = counts.counted behind in
    let some = w.some in
    let was = w.counted in
    let left : marks_in now (drop start places) ≡ ahead - 1 + more = omega (arith, count, some, was) in
    point_step clauses places conflict start down (down - 1) vars s now hints next ahead (ahead - 1 + more) at.0 r
    (sound clauses places apart reasons) last quiet
    distinct range (omega (arith, above)) at.1 (reason_is places (down - 1) l (Some r) at is) (marked_at places (down - 1) l s at on)
    (subst (HasTraded s now (literals_at clauses r)) (sym at.2) traded) left (omega arith) many is_next w

pub never_free : (clauses : List Held) (places : List Place) (conflict start down vars : ℕ) (s : MarkState) (hints : List ℕ) (ahead : ℕ) (l : Literal) →
    AreApart places → IsReasoned clauses places → IsLastDecision places start → IsLiteralAt places (down - 1) l → IsReasonIn places (down - 1) None →
    ahead ≢ 1 →
    PointMarks clauses places conflict start down vars s hints ahead → ⊥
never_free clauses places conflict start down vars s hints ahead l apart reasons last at is many w =
    let above = walk_above clauses places conflict start down vars s hints ahead apart reasons w in
    point_implied clauses places conflict start down (down - 1) vars s hints ahead at.0 (sound clauses places apart reasons) last
    (omega (arith, above)) at.1 many (reason_is places (down - 1) l None at is) w

-- the lemma at the point
pub record IsFound (clauses : List Held) (places : List Place) (conflict start : ℕ) (lits : Clause) (hints : List ℕ) : Type 0 where
  pub learnt : IsLearnt clauses lits hints
  pub first : IsFirstPoint clauses places conflict start lits

pub found : (clauses : List Held) (places : List Place) (conflict start down vars : ℕ) (s now : MarkState) (hints : List ℕ) (ahead : ℕ) (l : Literal)
    (lits : Clause) →
    AreApart places → IsReasoned clauses places → IsLiteralAt places (down - 1) l → l.variable ≤ vars → is_marked s l ≡ true → ahead ≡ 1 →
    HasMoved (unmarked s l) now (negation l ∷ []) lits → PointMarks clauses places conflict start down vars s hints ahead →
    IsFound clauses places conflict start lits hints
found clauses places conflict start down vars s now hints ahead l lits apart reasons at small on one moved w =
    let sure = sound clauses places apart reasons in
    let above = walk_above clauses places conflict start down vars s hints ahead apart reasons w in
    let w1 : PointMarks clauses places conflict start down vars s hints 1 = subst (PointMarks clauses places conflict start down vars s hints) one w in
    let denied : Contains w1.walk.left (negation l) =
    subst (λ x. Contains w1.walk.left (negation x)) at.2
    (denied_at clauses places down s hints (down - 1) at.0 sure w1.walk at.1 (marked_at places (down - 1) l s at on)) in
    let flags = w1.flags in
    let t : Taken clauses w1.walk.left lits hints = taken_at clauses places down s now hints l lits sure w1.walk denied (omega (arith, small, flags)) moved in
    record {
      learnt = t.learnt;
      first = point_end clauses places conflict start down (down - 1) vars s hints at.0 lits sure (omega (arith, above)) at.1
          (marked_at places (down - 1) l s at on) w1 (ap (λ xs. slice_get xs 0) moved.lits ∙ ap (λ x. Some (negation x)) (sym at.2)) t;
    }

-- ---- down to what no clause implied

pub at_first : (clauses : List Held) (levels : List Level) (places : List Place) (vars conflict : ℕ) (s0 s : MarkState) (hints : List ℕ) (down : ℕ) →
    AreApart places → IsReasoned clauses places → All (HasVariables vars) (live_clauses clauses) →
    All (λ c. has_distinct_variables c ≡ true) (live_clauses clauses) →
    IsConflictAt clauses (literals_of places) conflict → AreSpared clauses levels places → IsClear (vars + 1) s0 →
    HasMarked s0 s (literals_at clauses conflict) →
    down ≡ length places → hints ≡ conflict ∷ [] → FinalMarks clauses levels places down vars s hints
at_first clauses levels places vars conflict s0 s hints down apart reasons range distinct lost spared clear marked is_down is_hints =
    let c : Clause = literals_at clauses conflict in
    let there : IsClauseAt clauses conflict c = clause_is clauses conflict lost.live in
    let inside : Contains (live_clauses clauses) c = live_contains clauses conflict c there in
    final_start clauses levels places vars conflict c s0 s hints down (sound clauses places apart reasons) there
    (All-contains (λ x. has_distinct_variables x ≡ true) (live_clauses clauses) c distinct inside) lost.lost
    (All-contains (HasVariables vars) (live_clauses clauses) c range inside) spared clear marked is_down is_hints

-- a place without a mark, or without a reason
pub past_free : (clauses : List Held) (levels : List Level) (places : List Place) (down vars : ℕ) (s : MarkState) (hints : List ℕ) (l : Literal) → 0 < down →
    IsLiteralAt places (down - 1) l → (is_marked s l ≡ false) ⊎ IsReasonIn places (down - 1) None → FinalMarks clauses levels places down vars s hints →
    FinalMarks clauses levels places (down - 1) vars s hints
past_free clauses levels places down vars s hints l above at past w =
    final_past clauses levels places down (down - 1) vars s hints at.0 (omega (arith, above)) at.1
    (elim past as (λ _. (is_marked s at.0.literal ≡ false) ⊎ (at.0.reason ≡ None)) [
      | inl off ↦ inl (ap (is_marked s) at.2 ∙ off)
      | inr free ↦ inr (reason_is places (down - 1) l None at free)
    ]) w

pub traded_free : (clauses : List Held) (levels : List Level) (places : List Place) (down vars : ℕ) (s now : MarkState) (hints next : List ℕ)
    (l : Literal) (r : ℕ) → 0 < down →
    AreApart places → IsReasoned clauses places → All (HasVariables vars) (live_clauses clauses) →
    All (λ c. has_distinct_variables c ≡ true) (live_clauses clauses) → AreSpared clauses levels places →
    IsLiteralAt places (down - 1) l → IsReasonIn places (down - 1) (Some r) → is_marked s l ≡ true →
    HasTraded s now (literals_at clauses r) l → next ≡ hints ++ r ∷ [] → FinalMarks clauses levels places down vars s hints →
    FinalMarks clauses levels places (down - 1) vars now next
traded_free clauses levels places down vars s now hints next l r above apart reasons range distinct spared at is on traded is_next w =
    final_step clauses levels places down (down - 1) vars s now hints next at.0 r (sound clauses places apart reasons) distinct range spared (omega
    (arith, above)) at.1
    (reason_is places (down - 1) l (Some r) at is) (marked_at places (down - 1) l s at on)
    (subst (HasTraded s now (literals_at clauses r)) (sym at.2) traded) is_next w

pub record IsDone (clauses : List Held) (places : List Place) (lits : Clause) (hints : List ℕ) : Type 0 where
  pub learnt : IsLearnt clauses lits hints
  pub reasonless : All (λ l. IsReasonless places (negation l)) lits

-- the first level
first_level : (levels : List Level) → 1 ≤ length levels → (v : Level) × (slice_get levels 0 ≡ Some v)
first_level [] some = absurd (omega (arith, some))
first_level (v ∷ levels) some = (v, refl)

pub done : (clauses : List Held) (levels : List Level) (places : List Place) (down vars : ℕ) (s now : MarkState) (hints : List ℕ) (lits : Clause) →
    (down ≤ 0) ⊎ IsBelowLevels levels (down - 1) → AreSpared clauses levels places → AreApart places → IsReasoned clauses places → HasMoved s now [] lits →
    FinalMarks clauses levels places down vars s hints → IsDone clauses places lits hints
done clauses levels places down vars s now hints lits end spared apart reasons moved w =
    let t : Taken clauses w.walk.left lits hints = taken clauses places down s now hints lits (sound clauses places apart reasons) w.walk moved in
    let (v, first) = first_level levels spared.some in
    let low : down ≤ v.start = elim end as (λ _. down ≤ v.start) [
      | inl none ↦ omega (arith, none)
      | inr below ↦ let h = below.below v first in omega (arith, h)
    ] in
    record { learnt = t.learnt; reasonless = final_end clauses levels places down vars s hints lits v first low w t }
