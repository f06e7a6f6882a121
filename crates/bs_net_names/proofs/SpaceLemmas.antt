-- The space that may end a name.
use Rattle.std.proofs.Common.{◌≡◌, ℕ, ◌==◌, Bool, true, false, List, [], ◌∷◌, ◌++◌, length, arith, refl, ap, sym, ◌∙◌}
use Rattle.std.specs.Prelude.{if◌then◌else◌}
use Rattle.bs_net_names.specs.Naming.{unspaced}

abbrev by_space : Bool → ℕ → List ℕ
by_space b last = if b then [] else last ∷ []

-- a name by its last byte
by_last : (front : List ℕ) (last : ℕ) → unspaced (front ++ last ∷ []) ≡ front ++ by_space (last == 32) last
by_last [] last = refl
by_last (b ∷ []) last = refl
by_last (b ∷ c ∷ cs) last = ap (λ (t : List ℕ). b ∷ t) (by_last (c ∷ cs) last)

nothing_behind : (front : List ℕ) → front ++ [] ≡ front
nothing_behind [] = refl
nothing_behind (b ∷ bs) = ap (λ (t : List ℕ). b ∷ t) (nothing_behind bs)

pub space_none : (name : List ℕ) → length name ≡ 0 → name ≡ unspaced name
space_none [] e = refl
space_none (b ∷ bs) e = absurd (omega (arith, e))

pub space_ends : (name front : List ℕ) (last : ℕ) → name ≡ front ++ last ∷ [] → (last == 32) ≡ true → front ≡ unspaced name
space_ends name front last e space =
    sym (ap unspaced e ∙ (by_last front last ∙ (ap (λ (b : Bool). front ++ by_space b last) space ∙ nothing_behind front)))

pub space_else : (name front : List ℕ) (last : ℕ) → name ≡ front ++ last ∷ [] → (last == 32) ≡ false → name ≡ unspaced name
space_else name front last e other =
    e ∙ sym (ap unspaced e ∙ (by_last front last ∙ ap (λ (b : Bool). front ++ by_space b last) other))
