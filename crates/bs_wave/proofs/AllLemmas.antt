-- All of a list's answers, as far as they have come; and keys beside names.
use Rattle.std.proofs.Common.{◌≡◌, ℕ, ◌≤◌, ◌+◌, Bool, true, false, List, ◌∷◌, [], ◌++◌, map, length, take, drop, refl, arith, ap, sym, ◌∙◌}
use Rattle.std.proofs.Common.{Option, Some}
use Rattle.std.specs.Prelude.{option_map, slice_get}
use Rattle.std.specs.Str.{bytes_eq}
use Rattle.std.proofs.lemmas.List.{take_all}
use Rattle.std.proofs.lemmas.Slice.Eq.{bytes_eq-Decides, slice_eq-Decides}
use Rattle.bs_wave.specs.WayIn.{all_of, same_keys}
use Rattle.bs_wave.proofs.ListLemmas.{one_more_taken}

-- done, and what is left
abbrev pub Left : {X A : Type 0} → (X → Option A) → List X → ℕ → List A → Type 0
Left f xs i done = all_of (map f xs) ≡ option_map (λ rest. done ++ rest) (all_of (map f (drop i xs)))

-- ---- keys

-- a key that is no name
pub other_key : (keys names : List (List ℕ)) (n : ℕ) (k m : List ℕ) → slice_get keys n ≡ Some k → slice_get names n ≡ Some m → bytes_eq k m ≡ false →
    same_keys keys names ≡ false
other_key keys names n k m ek em other = by (same_keys keys names) refl
  where
    by : (b : Bool) → same_keys keys names ≡ b → b ≡ false
    by false e = refl
    by true e =
        let same : keys ≡ names = (slice_eq-Decides bytes_eq-Decides keys names (same_keys keys names) refl).0 e in
        let some : Some k ≡ Some m = sym ek ∙ (ap (λ (l : List (List ℕ)). slice_get l n) same ∙ em) in
        let here : k ≡ m = cc in
        let yes : bytes_eq k m ≡ true = (bytes_eq-Decides k m).1 here in
        cc

pub more_same : (keys names : List (List ℕ)) (n : ℕ) (k m : List ℕ) → take n keys ≡ take n names → slice_get keys n ≡ Some k → slice_get names n ≡ Some m →
    bytes_eq k m ≡ true → take (n + 1) keys ≡ take (n + 1) names
more_same keys names n k m so_far ek em same =
    sym (one_more_taken keys n k ek)
    ∙ (ap (λ l. l ++ k ∷ []) so_far ∙ (ap (λ x. take n names ++ x ∷ []) ((bytes_eq-Decides k m).0 same) ∙ one_more_taken names n m em))

pub all_same : (keys names : List (List ℕ)) (n : ℕ) → length keys ≡ length names → length names ≤ n → take n keys ≡ take n names → keys ≡ names
all_same keys names n e le same = sym (take_all n keys (omega (arith, e, le))) ∙ (same ∙ take_all n names le)

pub same_keys_is : (keys names : List (List ℕ)) → keys ≡ names → same_keys keys names ≡ true
same_keys_is keys names e = (slice_eq-Decides bytes_eq-Decides keys names (same_keys keys names) refl).1 e
