-- The entry of an id stands at its place.
use Rattle.std.proofs.Common.{◌≡◌, ℕ, zero, suc, ◌+◌, ◌<◌, arith, true, false, cond, List, [], ◌∷◌, refl, ap, ◌∙◌, Option, Some, None, eqb}
use Rattle.std.specs.Prelude.{slice_get, option_and_then}
use Rattle.std.proofs.lemmas.Bool.{eq-eqb, ne_eqb}
use Rattle.bs_log.specs.History.{Entry}
use Rattle.bs_log.specs.Refusal.{entry_of}
use Rattle.bs_rup.specs.declared.live_clauses.Stored.{Stored}
use Rattle.bs_rup.specs.LiveClauses.{entry_from, live_from}

entry_below : (n : ℕ) (ss : List Stored) (id : ℕ) → id < n → entry_of (live_from n ss) id ≡ None
entry_below n [] id h = refl
entry_below n (s ∷ ss) id h =
    let other : eqb n id ≡ false = ne_eqb n id (λ e. omega arith) in
    elim (s.live) as (λ b. entry_of (cond b (entry_from n s ∷ live_from (n + 1) ss) (live_from (n + 1) ss)) id ≡ None) [
      | true ↦ ap (λ b. cond b (Some (entry_from n s)) (entry_of (live_from (n + 1) ss) id)) other ∙ entry_below (n + 1) ss id (omega arith)
      | false ↦ entry_below (n + 1) ss id (omega arith)
    ]

-- the entry where the clause is live
abbrev pub entry_if : ℕ → Stored → Option Entry
entry_if id s = cond s.live (Some (entry_from id s)) None

pub entry_at_place : (n : ℕ) (ss : List Stored) (k id : ℕ) → id ≡ n + k → entry_of (live_from n ss) id ≡ option_and_then (entry_if id) (slice_get ss k)
entry_at_place n [] k id at = refl
entry_at_place n (s ∷ ss) zero id at =
    let here : n ≡ id = omega arith in
    elim (s.live) as (λ b. entry_of (cond b (entry_from n s ∷ live_from (n + 1) ss) (live_from (n + 1) ss)) id ≡ cond b (Some (entry_from id s)) None) [
      | true ↦ ap (λ b. cond b (Some (entry_from n s)) (entry_of (live_from (n + 1) ss) id)) (eq-eqb n id here) ∙ ap (λ m. Some (entry_from m s)) here
      | false ↦ entry_below (n + 1) ss id (omega arith)
    ]
entry_at_place n (s ∷ ss) (suc k) id at =
    let other : eqb n id ≡ false = ne_eqb n id (λ e. omega arith) in
    let later : entry_of (live_from (n + 1) ss) id ≡ option_and_then (entry_if id) (slice_get ss k) = entry_at_place (n + 1) ss k id (omega arith) in
    elim (s.live) as (λ b. entry_of (cond b (entry_from n s ∷ live_from (n + 1) ss) (live_from (n + 1) ss)) id ≡ option_and_then (entry_if id)
    (slice_get ss k)) [
      | true ↦ ap (λ b. cond b (Some (entry_from n s)) (entry_of (live_from (n + 1) ss) id)) other ∙ later
      | false ↦ later
    ]

pub no_entry_at_zero : (ss : List Stored) → entry_of (live_from 1 ss) 0 ≡ None
no_entry_at_zero ss = entry_below 1 ss 0 (omega arith)
