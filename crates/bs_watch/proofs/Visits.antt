-- Where a visit leaves the clauses that were visited.
use Rattle.std.proofs.Common.{◌≡◌, ◌≢◌, ◌↔◌, ℕ, suc, zero, ◌+◌, ◌*◌, ◌<◌, ◌≤◌, ◌-◌, true, false, Bool, cond, List, [], ◌∷◌, ◌++◌, length, set, map}
use Rattle.std.proofs.Common.{refl, sym, ap, subst, ◌∙◌, inl, inr, ◌⊎◌, Some, arith}
use Rattle.std.specs.Prelude.{All, Contains, slice_get, is_some}
use Rattle.std.proofs.lemmas.List.{length-set}
use Rattle.std.proofs.lemmas.List.Elements.{All-contains}
use Rattle.bs_clause.specs.Literal.{Literal, Clause, negation, code_of}
use Rattle.bs_clause.specs.Range.{HasVariables, IsWithin}
use Rattle.bs_arena.specs.Arena.{Held, held_at, literals_at}
use Rattle.bs_watch.specs.declared.lists.Watcher.{Watcher}
use Rattle.bs_watch.specs.Trail.{IsTrueOn, IsFalseOn, IsConflict, Implies}
use Rattle.bs_watch.specs.Places.{Place, literals_of, TrailState}
use Rattle.bs_watch.specs.Look.{IsFirstTwo, HasTrue}
use Rattle.bs_watch.specs.Lists.{row, IsIn, IsAttached}
use Rattle.bs_watch.specs.Scene.{Scene, trues, IsWatcher, IsWatchable, AreListed, Advances, AreMet, IsConflictOf}
use Rattle.bs_watch.proofs.Gets.{same_some, get_map, get_last, Contains_from_get}
use Rattle.bs_watch.proofs.Rows.{row_now}
use Rattle.bs_watch.proofs.Steps.{SameClauses, same_clauses_set, blocked, implied_one}
use Rattle.bs_watch.proofs.Advancing.{met_still, met_more}

pub in_range : (vars : ℕ) (c : Clause) (l : Literal) → HasVariables vars c → Contains c l → l.variable ≤ vars
in_range vars c l all there = (All-contains (IsWithin vars) c l all there).1

-- the clause at the place has a true literal
pub met_here : (s : Scene) (f : Literal) (at : ℕ) (w : Watcher) (l : Literal) → AreMet s f at → slice_get (row s.lists f) at ≡ Some w →
    Contains (literals_at s.clauses w.clause) l → IsTrueOn (trues s) l → AreMet s f (at + 1)
met_here s f at w l m there stands holds =
    met_more s f at m (λ v e. subst (λ (x : Watcher). HasTrue (trues s) (literals_at s.clauses x.clause)) (same_some w v (sym there ∙ e))
    (record { literal = l; stands = stands; holds = holds }))

pub met_blocked : (level : ℕ) (trail : TrailState) (lists new : List (List Watcher)) (clauses : List Held) (f : Literal) (at : ℕ) (w b : Watcher) →
    AreListed (record { trail = trail; lists = lists; clauses = clauses }) → code_of f < length lists → slice_get (row lists f) at ≡ Some w →
    b.clause ≡ w.clause →
    Contains (literals_at clauses w.clause) b.blocker → IsTrueOn (literals_of trail.places) b.blocker → new ≡ set lists (code_of f) (set (row lists f) at b) →
    AreMet (record { trail = trail; lists = lists; clauses = clauses }) f at →
    AreMet (record { trail = trail; lists = new; clauses = clauses }) f (at + 1) × (length (row new f) ≡ length (row lists f))
met_blocked level trail lists new clauses f at w b a within there same stands holds is m =
    let here : row new f ≡ set (row lists f) at b = ap (λ ls. row ls f) is ∙ row_now lists f (set (row lists f) at b) within in
    let s : SameClauses (row lists f) (row new f) = subst (SameClauses (row lists f)) (sym here) (same_clauses_set (row lists f) at w b there same) in (
      met_still level (record { trail = trail; lists = lists; clauses = clauses }) (record { trail = trail; lists = new; clauses = clauses }) f (at + 1)
          (blocked level trail lists new clauses f at w b a within there same stands is) (λ k v before e. s.back k v e)
          (met_here (record { trail = trail; lists = lists; clauses = clauses }) f at w b.blocker m there stands holds),
      ap length here ∙ length-set (row lists f) at b,
    )

pub met_implied : (level : ℕ) (trail : TrailState) (lists : List (List Watcher)) (clauses : List Held) (f : Literal) (at : ℕ) (w : Watcher) (p : Place) →
    AreListed (record { trail = trail; lists = lists; clauses = clauses }) → p.reason ≡ Some w.clause → p.level ≡ level →
    is_some (held_at clauses w.clause) ≡ true → Implies (literals_of trail.places) (literals_at clauses w.clause) p.literal →
    slice_get (row lists f) at ≡ Some w → AreMet (record { trail = trail; lists = lists; clauses = clauses }) f at →
    AreMet (record { trail = record { vars = trail.vars; places = trail.places ++ p ∷ [] }; lists = lists; clauses = clauses }) f (at + 1)
met_implied level trail lists clauses f at w p a reason at_level live implies there m =
    let new : Scene = record { trail = record { vars = trail.vars; places = trail.places ++ p ∷ [] }; lists = lists; clauses = clauses } in
    met_here new f at w p.literal
    (met_still level (record { trail = trail; lists = lists; clauses = clauses }) new f at
    (implied_one level trail lists clauses w.clause p a reason at_level live implies) (λ k v before e. (v, e, refl)) m)
    there implies.stands
    (Contains_from_get (literals_of (trail.places ++ p ∷ [])) (length trail.places) p.literal
    (get_map (λ (x : Place). x.literal) (trail.places ++ p ∷ []) (length trail.places) p (get_last trail.places p)))

pub conflict_of : (s : Scene) (f : Literal) (at : ℕ) (w : Watcher) → AreListed s → slice_get (row s.lists f) at ≡ Some w →
    IsConflict (trues s) (literals_at s.clauses w.clause) → IsConflictOf s w.clause
conflict_of s f at w a there lost = record {
  attached = (f, record { at = at; watcher = w; there = there; same = refl });
  live = (a.listed f at w there).live;
  lost = lost;
}
