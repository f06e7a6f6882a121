-- Climbing from a net on a path to the uppermost net to which joins lead.
use Rattle.std.specs.Prelude.{◌≡◌, ℕ, ◌+◌, ◌<◌, ◌≤◌, List, [], length, map, slice_index_or, Option}
use Rattle.bs_flat_meaning.specs.Design.{Design, Join, Path, on, instance_in, paths}
use Rattle.bs_flat_meaning.specs.Meaning.{root, joined_with}
use Rattle.bs_flat_meaning.specs.Paths.{ArePaths, no_node}
use Rattle.bs_flat_meaning.specs.declared.paths.Node.{Node}
use Rattle.bs_flat_nets.specs.Blocks.{design_of, module_of}
use Rattle.bs_flat_nets.specs.Order.{module_in}
use Rattle.bs_flat_nets.specs.Rows.{IsRow}
use Rattle.bs_flat_nets.specs.declared.blocks.FlatModule.{FlatModule}
use Rattle.bs_flat_nets.specs.declared.blocks.JoinedNets.{JoinedNets}
use Rattle.bs_flat_nets.specs.declared.climbing.NetOnPath.{NetOnPath}

-- the node with a number
abbrev pub node_at : List Node → ℕ → Node
node_at nodes k = slice_index_or nodes k no_node

-- the joined bits of the instance at the end of a node's path
abbrev pub joins_of_node : List FlatModule → List Node → ℕ → List Join
joins_of_node blocks nodes k =
    (instance_in (module_in (map module_of blocks) (node_at nodes (node_at nodes k).parent).of) (node_at nodes k).instance).joins

-- each node but the top's has its parent before it, and is of an instance that is there
pub record AreClimbable (blocks : List FlatModule) (nodes : List Node) : Type 0 where
  pub parent : (k : ℕ) → 0 < k → k < length nodes → (node_at nodes k).parent < k
  pub block : (k : ℕ) → k < length nodes → (node_at nodes k).of < length blocks
  pub child : (k : ℕ) → 0 < k → k < length nodes →
      (node_at nodes k).instance < length (module_in (map module_of blocks) (node_at nodes (node_at nodes k).parent).of).instances

-- the path with a number
abbrev pub path_in : Design → ℕ → Path
path_in d k = slice_index_or (paths d) k []

-- from a net on a path joins lead up to another: both have the same uppermost net
pub record LeadsUp (blocks : List FlatModule) (nodes : List Node) (at net node outer : ℕ) : Type 0 where
  pub leads : (top : ℕ) → ArePaths (design_of blocks top) nodes (paths (design_of blocks top)) →
      root (design_of blocks top) (path_in (design_of blocks top) at) net ≡ root (design_of blocks top) (path_in (design_of blocks top) node) outer

-- a place is the uppermost net of a net on a path
pub record IsRootOf (blocks : List FlatModule) (nodes : List Node) (at net : ℕ) (place : NetOnPath) : Type 0 where
  pub is : (top : ℕ) → ArePaths (design_of blocks top) nodes (paths (design_of blocks top)) →
      root (design_of blocks top) (path_in (design_of blocks top) at) net ≡ on (path_in (design_of blocks top) place.node) place.net

-- a run of nothing, which stands past the end of a list
abbrev pub no_run : JoinedNets
no_run = record { inner = 0; outer = 0; width = 0 }

-- the run before a place begins no later than a net, and the one at it begins later
pub record CountsTo (row : List JoinedNets) (n k : ℕ) : Type 0 where
  pub within : k ≤ length row
  pub low : (i : ℕ) → k ≡ i + 1 → (slice_index_or row i no_run).inner ≤ n
  pub high : k < length row → n < (slice_index_or row k no_run).inner

-- the net with which a net is joined, where runs are all joins in order
pub record IsOuter (row : List JoinedNets) (n : ℕ) (found : Option ℕ) : Type 0 where
  pub is : (js : List Join) → IsRow js row → found ≡ joined_with js n
