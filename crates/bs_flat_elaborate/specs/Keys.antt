-- The keys of flat nets, by nodes and blocks.
use Rattle.std.specs.Prelude.{◌≡◌, ℕ, Bool, ◌||◌, ◌==◌, if◌then◌else◌, List, [], map, slice_index_or}
use Rattle.std.specs.List.{list_any}
use Rattle.bs_net.specs.Parts.{Parts}
use Rattle.bs_flat_meaning.specs.Design.{Design, instance_in, paths}
use Rattle.bs_flat_meaning.specs.Flat.{path_text, key_below, flat_key}
use Rattle.bs_flat_meaning.specs.Paths.{ArePaths}
use Rattle.bs_flat_meaning.specs.declared.paths.Node.{Node}
use Rattle.bs_flat_nets.specs.Blocks.{design_of, module_of}
use Rattle.bs_flat_nets.specs.Climbing.{node_at, path_in}
use Rattle.bs_flat_nets.specs.Order.{module_in}
use Rattle.bs_flat_nets.specs.declared.blocks.FlatModule.{FlatModule}
use Rattle.bs_flat_nets.specs.declared.climbing.NetOnPath.{NetOnPath}
use Rattle.bs_flat_nets.specs.declared.constants.Bit.{Bit}
use Rattle.bs_flat_nets.specs.Numbering.{net_at}

-- the name of the instance at the end of a node's path
abbrev pub name_of_node : List FlatModule → List Node → ℕ → List ℕ
name_of_node blocks nodes k =
    (instance_in (module_in (map module_of blocks) (node_at nodes (node_at nodes k).parent).of) (node_at nodes k).instance).name

-- a text is that of a node's path
pub record IsPathText (blocks : List FlatModule) (nodes : List Node) (at : ℕ) (text : List ℕ) : Type 0 where
  pub is :
      (top : ℕ) → ArePaths (design_of blocks top) nodes (paths (design_of blocks top))
      → text ≡ path_text (design_of blocks top) (path_in (design_of blocks top) at)

-- whether a net is among some constants
abbrev pub has_net : List Bit → ℕ → Bool
has_net known n = list_any (λ k. k.net == n) known

-- the key of a net of some parts on a path: the top's nets and constants keep theirs
abbrev pub key_on : List ℕ → Parts → List Bit → Bool → ℕ → List ℕ
key_on text parts known at_top n =
    let key = slice_index_or parts.names n [] in
    if at_top || has_net known n then key else key_below text key

-- the key of a flat net
abbrev pub key_of_place : Design → NetOnPath → List ℕ
key_of_place d p = flat_key d (net_at d p)
