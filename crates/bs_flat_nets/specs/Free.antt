-- The nets that joins leave to each path.
use Rattle.std.specs.Prelude.{ℕ, List, map, length, filter, is_none}
use Rattle.std.specs.List.{flat_map, range_with_len}
use Rattle.bs_flat_meaning.specs.Design.{Design, Join, Path, PathNet, on, own, joins_at, instance_in, paths}
use Rattle.bs_flat_meaning.specs.Meaning.{joined_with}
use Rattle.bs_flat_meaning.specs.declared.paths.Node.{Node}
use Rattle.bs_flat_nets.specs.Blocks.{joins_of_run, module_of}
use Rattle.bs_flat_nets.specs.Climbing.{node_at, joins_of_node}
use Rattle.bs_flat_nets.specs.Constants.{known_constants}
use Rattle.bs_flat_nets.specs.Order.{module_in}
use Rattle.bs_flat_nets.specs.declared.blocks.FlatModule.{FlatModule}
use Rattle.bs_flat_nets.specs.declared.blocks.Child.{Child}
use Rattle.bs_flat_nets.specs.declared.constants.Bit.{Bit}

-- of so many nets, those that are joined with none of the parent
abbrev pub free_nets : List Join → ℕ → List ℕ
free_nets joins count = filter (λ n. is_none (joined_with joins n)) (range_with_len 0 count)

-- the nets of a path that are joined with none of its parent
abbrev pub free_on : Design → Path → List ℕ
free_on d p = free_nets (joins_at d p) (length (own d p).names)

-- the nets of some paths that are joined with none of their parents
abbrev pub free_of : Design → List Path → List PathNet
free_of d ps = flat_map (λ p. map (on p) (free_on d p)) ps

-- the nets of a design to which joins lead
abbrev pub roots : Design → List PathNet
roots d = free_of d (paths d)

-- how many nets the block with a number has
abbrev pub count_in : List FlatModule → ℕ → ℕ
count_in blocks k = length (module_in (map module_of blocks) k).own.names

-- the constants of the block with a number
abbrev pub known_in : List FlatModule → ℕ → List Bit
known_in blocks k = known_constants (module_in (map module_of blocks) k).own

-- the nets that joins leave to a child, to each of a block's, and to each of each block's
abbrev pub free_of_child : List FlatModule → Child → List ℕ
free_of_child blocks c = free_nets (flat_map joins_of_run c.joins) (count_in blocks c.of)

abbrev pub free_of_block : List FlatModule → FlatModule → List (List ℕ)
free_of_block blocks b = map (free_of_child blocks) b.children

abbrev pub free_of_all : List FlatModule → List (List (List ℕ))
free_of_all blocks = map (free_of_block blocks) blocks

-- the nets that joins leave to a node's path, which is not the top's
abbrev pub free_of_node : List FlatModule → List Node → ℕ → List ℕ
free_of_node blocks nodes k =
    let instance = instance_in (module_in (map module_of blocks) (node_at nodes (node_at nodes k).parent).of) (node_at nodes k).instance in
    free_nets (joins_of_node blocks nodes k) (count_in blocks instance.of)
