-- Searches through a list that end at the first element which settles the answer.
use Rattle.std.proofs.Common.{◌≡◌, ℕ, ◌<◌, ◌≤◌, ◌+◌, Bool, true, false, List, length, take, get_or, ap, sym, ◌∙◌}
use Rattle.std.specs.Prelude.{◌&&◌, ◌||◌}
use Rattle.std.specs.List.{list_all, list_any}
use Rattle.std.proofs.lemmas.List.{take_all}
use Rattle.std.proofs.lemmas.List.Folds.{list_all_at, list_all_more, list_any_at, list_any_more}

-- ---- whether one is so

pub any_more : {X : Type 0} (p : X → Bool) (xs : List X) (i : ℕ) (d : X) (is : Bool) → i < length xs → is ≡ p (get_or xs i d) → is ≡ false →
    list_any p (take i xs) ≡ false → list_any p (take (i + 1) xs) ≡ false
any_more p xs i d is lt e off so_far = list_any_more p xs i d lt ∙ (ap (λ (b : Bool). b || p (get_or xs i d)) so_far ∙ (sym e ∙ off))

pub any_here : {X : Type 0} (p : X → Bool) (xs : List X) (i : ℕ) (d : X) (is : Bool) → i < length xs → is ≡ p (get_or xs i d) → is ≡ true →
    true ≡ list_any p xs
any_here p xs i d is lt e on = sym (list_any_at p xs i d lt (sym e ∙ on))

pub any_none : {X : Type 0} (p : X → Bool) (xs : List X) (i : ℕ) → length xs ≤ i → list_any p (take i xs) ≡ false → false ≡ list_any p xs
any_none p xs i le so_far = sym so_far ∙ ap (list_any p) (take_all i xs le)

-- ---- whether all are so

pub all_more : {X : Type 0} (p : X → Bool) (xs : List X) (i : ℕ) (d : X) (is : Bool) → i < length xs → is ≡ p (get_or xs i d) → is ≡ true →
    list_all p (take i xs) ≡ true → list_all p (take (i + 1) xs) ≡ true
all_more p xs i d is lt e on so_far = list_all_more p xs i d lt ∙ (ap (λ (b : Bool). b && p (get_or xs i d)) so_far ∙ (sym e ∙ on))

pub all_not : {X : Type 0} (p : X → Bool) (xs : List X) (i : ℕ) (d : X) (is : Bool) → i < length xs → is ≡ p (get_or xs i d) → is ≡ false →
    false ≡ list_all p xs
all_not p xs i d is lt e off = sym (list_all_at p xs i d lt (sym e ∙ off))

pub all_whole : {X : Type 0} (p : X → Bool) (xs : List X) (i : ℕ) → length xs ≤ i → list_all p (take i xs) ≡ true → true ≡ list_all p xs
all_whole p xs i le so_far = sym so_far ∙ ap (list_all p) (take_all i xs le)
