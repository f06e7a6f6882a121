-- Instances whose modules stand in a table of places.
use Rattle.std.proofs.Common.{◌≡◌, ℕ, ◌<◌, ◌≤◌, Bool, true, false, cond, List, [], ◌∷◌, map, length, get_or, refl, arith, ap, sym, ◌∙◌}
use Rattle.std.proofs.Common.{Option, Some, None}
use Rattle.std.specs.Prelude.{nat_lt, unwrap_or}
use Rattle.std.specs.List.{All, AllByRecursion}
use Rattle.std.proofs.lemmas.Bool.{ltb-true}
use Rattle.std.proofs.lemmas.List.Elements.{All-from_recursion}
use Rattle.bs_flat_meaning.specs.declared.statements.Written.{Written}
use Rattle.bs_flat_meaning.specs.Places.{place_by_id, ArePlaces}
use Rattle.bs_flat_meaning.specs.ModuleNumbers.{looked_up, numbers_of, numbers_by}

head_same : {X : Type 0} (x y : X) (xs ys : List X) → ◌≡◌ {A = List X} (x ∷ xs) (y ∷ ys) → x ≡ y
head_same x y xs ys e = ap (λ l. get_or l 0 x) e

tail_of : {X : Type 0} → List X → List X
tail_of [] = []
tail_of (x ∷ xs) = xs

tail_same : {X : Type 0} (x y : X) (xs ys : List X) → ◌≡◌ {A = List X} (x ∷ xs) (y ∷ ys) → xs ≡ ys
unfolding tail_of
tail_same x y xs ys e = ap tail_of e

found : (ids table : List (Option ℕ)) (id n : ℕ) → ArePlaces ids table → get_or table id None ≡ Some n → (n ≡ place_by_id ids id) × (n < length ids)
found ids table id n a e = by (nat_lt (place_by_id ids id) (length ids)) refl (sym (a.each id) ∙ e)
  where
    none : ◌≡◌ {A = Option ℕ} None (Some n) → ⊥
    none q = cc

    by : (b : Bool) → nat_lt (place_by_id ids id) (length ids) ≡ b → cond b (Some (place_by_id ids id)) None ≡ Some n →
        (n ≡ place_by_id ids id) × (n < length ids)
    by true lt q =
        let same : n ≡ place_by_id ids id = sym (ap (λ o. unwrap_or o 0) q) in
        let less = ltb-true (place_by_id ids id) (length ids) lt in
        (same, omega (arith, same, less))
    by false lt q = absurd (none q)

found_all : (ids table : List (Option ℕ)) (ns : List ℕ) (ws : List Written) → ArePlaces ids table → map Some ns ≡ map (looked_up table) ws →
    (ns ≡ numbers_of ids ws) × AllByRecursion (λ n. n < length ids) ns
found_all ids table [] [] a e = (refl, tt)
found_all ids table [] (w ∷ ws) a e = absurd (nothing e)
  where
    nothing : ◌≡◌ {A = List (Option ℕ)} [] (map (looked_up table) (w ∷ ws)) → ⊥
    nothing q = let long = ap length q in omega (arith, long)
found_all ids table (n ∷ ns) [] a e = absurd (nothing e)
  where
    nothing : ◌≡◌ {A = List (Option ℕ)} (map Some (n ∷ ns)) [] → ⊥
    nothing q = let long = ap length q in omega (arith, long)
found_all ids table (n ∷ ns) (w ∷ ws) a e =
    let one = found ids table w.of.id n a (sym (head_same (Some n) (looked_up table w) (map Some ns) (map (looked_up table) ws) e)) in
    let rest = found_all ids table ns ws a (tail_same (Some n) (looked_up table w) (map Some ns) (map (looked_up table) ws) e) in
    (ap (λ k. k ∷ ns) one.0 ∙ ap (λ l. place_by_id ids w.of.id ∷ l) rest.0, (one.1, rest.1))

pub found_each : (ids table : List (Option ℕ)) (all : List (List ℕ)) (written : List (List Written)) → ArePlaces ids table →
    map (map Some) all ≡ map (map (looked_up table)) written →
    (all ≡ numbers_by ids written) × AllByRecursion (λ ns. All (λ n. n < length ids) ns) all
found_each ids table [] [] a e = (refl, tt)
found_each ids table [] (ws ∷ written) a e = absurd (nothing e)
  where
    nothing : ◌≡◌ {A = List (List (Option ℕ))} [] (map (map (looked_up table)) (ws ∷ written)) → ⊥
    nothing q = let long = ap length q in omega (arith, long)
found_each ids table (ns ∷ all) [] a e = absurd (nothing e)
  where
    nothing : ◌≡◌ {A = List (List (Option ℕ))} (map (map Some) (ns ∷ all)) [] → ⊥
    nothing q = let long = ap length q in omega (arith, long)
found_each ids table (ns ∷ all) (ws ∷ written) a e =
    let one = found_all ids table ns ws a (head_same (map Some ns) (map (looked_up table) ws) (map (map Some) all) (map (map (looked_up table)) written) e) in
    let rest = found_each ids table all written a (tail_same (map Some ns) (map (looked_up table) ws) (map (map Some) all) (map (map (looked_up table)) written) e) in (
      ap (λ k. k ∷ all) one.0 ∙ ap (λ l. numbers_of ids ws ∷ l) rest.0,
      (All-from_recursion (λ n. n < length ids) ns one.1, rest.1),
    )
