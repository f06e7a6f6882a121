-- The first place of a list that passes.
use Rattle.std.proofs.Common.{◌≡◌, ℕ, ◌<◌, ◌≤◌, Bool, true, false, List, length, Option, Some, None, refl, ap, sym, ◌∙◌, arith}
use Rattle.std.specs.Prelude.{nat_lt, if◌then◌else◌}
use Rattle.std.specs.List.{position, position_or_len}
use Rattle.std.proofs.lemmas.Bool.{ltb-false, lt-ltb, le-ltb}
use Rattle.std.proofs.lemmas.Option.{none-some}

pub position_is : {X : Type 0} (p : X → Bool) (xs : List X) (i : ℕ) → position_or_len p xs ≡ i → i < length xs → Some i ≡ position p xs
position_is p xs i at lt =
    ap (λ (b : Bool). if b then Some i else None) (sym (lt-ltb i (length xs) lt))
    ∙ ap (λ (k : ℕ). if nat_lt k (length xs) then Some k else None) (sym at)

pub position_none : {X : Type 0} (p : X → Bool) (xs : List X) → position_or_len p xs ≡ length xs → None ≡ position p xs
position_none p xs at =
    ap (λ (b : Bool). if b then Some (length xs) else None) (sym (le-ltb (length xs) (length xs) (omega arith)))
    ∙ ap (λ (k : ℕ). if nat_lt k (length xs) then Some k else None) (sym at)

pub position_past : {X : Type 0} (p : X → Bool) (xs : List X) → None ≡ position p xs → length xs ≤ position_or_len p xs
position_past p xs e = by (nat_lt (position_or_len p xs) (length xs)) refl
  where
    by : (z : Bool) → nat_lt (position_or_len p xs) (length xs) ≡ z → length xs ≤ position_or_len p xs
    by true is = absurd (none-some (position_or_len p xs) (e ∙ ap (λ (b : Bool). if b then Some (position_or_len p xs) else None) is))
    by false is = ltb-false _ _ is
