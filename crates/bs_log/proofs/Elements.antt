-- What holds of each element of a list holds of what is found in it, and of each that a filter keeps.
use Rattle.std.proofs.Common.{◌≡◌, Bool, true, false, cond, List, [], ◌∷◌, subst, Some}
use Rattle.std.specs.List.{filter, find, AllByRecursion}

-- what is found is an element
pub AllByRecursion-find : {X : Type 0} (P : X → Type 0) (test : X → Bool) (xs : List X) (x : X) → AllByRecursion P xs → find test xs ≡ Some x → P x
AllByRecursion-find P test [] x all h = absurd (cc)
AllByRecursion-find {X} P test (y ∷ ys) x all h =
    elim (test y) as (λ b. cond b (Some y) (find test ys) ≡ Some x → P x) [
      | true ↦ λ e. let same : y ≡ x = cc in subst P same all.0
      | false ↦ λ e. AllByRecursion-find P test ys x all.1 e
    ] h

pub AllByRecursion-filter : {X : Type 0} (P : X → Type 0) (test : X → Bool) (xs : List X) → AllByRecursion P xs → AllByRecursion P (filter test xs)
AllByRecursion-filter P test [] all = tt
AllByRecursion-filter P test (x ∷ xs) all =
    elim (test x) as (λ b. AllByRecursion P (cond b (x ∷ filter test xs) (filter test xs))) [
      | true ↦ (all.0, AllByRecursion-filter P test xs all.1)
      | false ↦ AllByRecursion-filter P test xs all.1
    ]
