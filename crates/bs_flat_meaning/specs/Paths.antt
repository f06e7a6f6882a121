-- The paths of a design as a list of nodes.
use Rattle.std.specs.Prelude.{◌≡◌, ℕ, ◌<◌, List, [], ◌∷◌, ◌++◌, length, slice_index_or, All}
use Rattle.std.specs.List.{flat_map, range_with_len}
use Rattle.bs_flat_meaning.specs.declared.paths.Instanced.{Instanced}
use Rattle.bs_flat_meaning.specs.declared.paths.Node.{Node}
use Rattle.bs_flat_meaning.specs.Design.{Design, Path, instance_in, module_at, module_in, paths_from, paths}

-- a module without instances, which stands past the end of a list
abbrev pub no_instanced : Instanced
no_instanced = record { instances = [] }

-- a design whose modules have these instances
pub record IsOf (modules : List Instanced) (d : Design) : Type 0 where
  pub count : (k : ℕ) → k < length modules → length (module_in d k).instances ≡ length (slice_index_or modules k no_instanced).instances
  pub of : (k i : ℕ) → k < length modules → i < length (slice_index_or modules k no_instanced).instances
      → (instance_in (module_in d k) i).of ≡ slice_index_or (slice_index_or modules k no_instanced).instances i 0

-- each instance is of a module of the list, and so is each node
abbrev pub AreModules : List Instanced → Type 0
AreModules modules = All (λ s. All (λ n. n < length modules) s.instances) modules

abbrev pub AreWithin : List Instanced → List Node → Type 0
AreWithin modules nodes = All (λ p. p.of < length modules) nodes

-- a node of nothing, which stands past the end of a list
abbrev pub no_node : Node
no_node = record { parent = 0; instance = 0; of = 0 }

-- the node with number k stands for the path with that number
pub record StandsFor (d : Design) (nodes : List Node) (ps : List Path) (k : ℕ) : Type 0 where
  pub same : module_in d (slice_index_or nodes k no_node).of ≡ module_at d (slice_index_or ps k [])
  pub parent : 0 < k → (slice_index_or nodes k no_node).parent < k
  pub path : 0 < k → slice_index_or ps k [] ≡ (slice_index_or nodes k no_node).instance ∷ slice_index_or ps (slice_index_or nodes k no_node).parent []

-- the nodes stand for the paths one by one
pub record ArePaths (d : Design) (nodes : List Node) (ps : List Path) : Type 0 where
  pub count : length nodes ≡ length ps
  pub each : (k : ℕ) → k < length nodes → StandsFor d nodes ps k

-- the paths below one, of at most so many levels
abbrev pub below : ℕ → Design → Path → List Path
below levels d p = flat_map (λ i. paths_from levels d (i ∷ p)) (range_with_len 0 (length (module_at d p).instances))

-- the nodes after stand for the paths before and those below one of them, in its first instances
pub record AddsFirst (modules : List Instanced) (old new : List Node) (at levels count : ℕ) : Type 0 where
  pub adds : (d : Design) (ps : List Path) → IsOf modules d → ArePaths d old ps
      → ArePaths d new (ps ++ flat_map (λ i. paths_from levels d (i ∷ slice_index_or ps at [])) (range_with_len 0 count))

-- the nodes after stand for the paths before and those below one of them
pub record Adds (modules : List Instanced) (old new : List Node) (at levels : ℕ) : Type 0 where
  pub adds : (d : Design) (ps : List Path) → IsOf modules d → ArePaths d old ps
      → ArePaths d new (ps ++ below levels d (slice_index_or ps at []))

-- the nodes stand for all paths of each design of such modules
pub record ArePathsOf (modules : List Instanced) (top : ℕ) (nodes : List Node) : Type 0 where
  pub all : (d : Design) → IsOf modules d → d.top ≡ top → ArePaths d nodes (paths d)
