-- What stands on all paths, counted by modules before any path is made.
use Rattle.std.specs.Prelude.{◌≡◌, ℕ, zero, suc, ◌+◌, ◌<◌, ◌≤◌, nat_lt, List, [], ◌∷◌, length, max}
use Rattle.bs_flat_meaning.specs.declared.limits.TheConstants.{MAX_DEPTH}
use Rattle.bs_flat_meaning.specs.Design.{Design, Module, module_in, instance_in, paths, gates, flops}
use Rattle.bs_flat_meaning.specs.Reading.{is_deep}

-- the sum of something over a list
unfoldable pub sum_of : {A : Type 0} → (A → ℕ) → List A → ℕ
sum_of f [] = 0
sum_of f (x ∷ xs) = f x + sum_of f xs

-- the sum of something over a module and all below it, of at most so many levels
unfoldable pub total : ℕ → Design → (Module → ℕ) → Module → ℕ
total zero d f m = 0
total (suc n) d f m = f m + sum_of (λ i. total n d f (module_in d i.of)) m.instances

-- a sum for each module that is right for its instances, and a rank that falls along instances
pub record IsTotal (d : Design) (f : Module → ℕ) (v rank : ℕ → ℕ) : Type 0 where
  pub sums : (k : ℕ) → v k ≡ f (module_in d k) + sum_of (λ i. v i.of) (module_in d k).instances
  pub falls : (k i : ℕ) → i < length (module_in d k).instances → rank (instance_in (module_in d k) i).of < rank k

-- one more than the greatest of a list, or 0
unfoldable pub tallest : {A : Type 0} → (A → ℕ) → List A → ℕ
tallest f [] = 0
tallest f (x ∷ xs) = max (1 + f x) (tallest f xs)

-- how many instance names a path below a module may have, of at most so many
unfoldable pub height : ℕ → Design → Module → ℕ
height zero d m = 0
height (suc n) d m = tallest (λ i. height n d (module_in d i.of)) m.instances

-- a height for each module that is right for its instances
pub record IsHeight (d : Design) (v : ℕ → ℕ) : Type 0 where
  pub tall : (k : ℕ) → v k ≡ tallest (λ i. v i.of) (module_in d k).instances

-- the gates and flip-flops of a module, and 1 for its path
abbrev pub parts_in : Module → ℕ
parts_in m = length m.own.gates + (length m.own.flops + 1)

-- sums over modules, whose ranks the depth allows, count the gates, the flip-flops and the paths of a design
abbrev pub PartsAreSummed : Type 0
PartsAreSummed =
    (d : Design) (v rank : ℕ → ℕ) → IsTotal d parts_in v rank → rank d.top ≤ MAX_DEPTH →
    length (gates d) + (length (flops d) + length (paths d)) ≡ v d.top

-- heights of modules say whether a path is too long
abbrev pub DepthIsHeight : Type 0
DepthIsHeight = (d : Design) (v : ℕ → ℕ) → IsHeight d v → is_deep d ≡ nat_lt MAX_DEPTH (v d.top)
