-- The flat parts, path by path.
use Rattle.std.specs.Prelude.{ℕ, Bool, ◌&&◌, ◌==◌, if◌then◌else◌, List, [], ◌∷◌, map, slice_index_or, is_none}
use Rattle.std.specs.List.{flat_map}
use Rattle.bs_net.specs.declared.net.Gate.{Gate}
use Rattle.bs_net.specs.declared.net.Flop.{Flop}
use Rattle.bs_net.specs.declared.net.Const.{Const}
use Rattle.bs_flat_meaning.specs.Design.{Design, Path, on, own}
use Rattle.bs_flat_meaning.specs.Meaning.{joined_with}
use Rattle.bs_flat_meaning.specs.Flat.{flat_gate, flat_flop, flat_const, is_repeat}
use Rattle.bs_flat_meaning.specs.declared.paths.Node.{Node}
use Rattle.bs_flat_nets.specs.Climbing.{joins_of_node}
use Rattle.bs_flat_nets.specs.declared.blocks.FlatModule.{FlatModule}
use Rattle.bs_flat_nets.specs.Numbering.{no_place}
use Rattle.bs_flat_nets.specs.declared.numbers.Numbering.{Numbering}

-- the flat gate of a gate on a path, and those of a path
abbrev pub gate_on : Design → Path → Gate → Gate
gate_on d p g = flat_gate d (on p g)

abbrev pub gates_on : Design → Path → List Gate
gates_on d p = map (gate_on d p) (own d p).gates

-- the same of flip-flops
abbrev pub flop_on : Design → Path → Flop → Flop
flop_on d p f = flat_flop d (on p f)

abbrev pub flops_on : Design → Path → List Flop
flops_on d p = map (flop_on d p) (own d p).flops

-- the same of constants, of which a repeat gives none
abbrev pub const_on : Design → Path → Const → List Const
const_on d p k = if is_repeat d (on p k) then [] else flat_const d (on p k) ∷ []

abbrev pub consts_on : Design → Path → List Const
consts_on d p = flat_map (const_on d p) (own d p).consts

-- whether a net on a node's path is joined with none of the parent
abbrev pub is_root_at : List FlatModule → List Node → ℕ → ℕ → Bool
is_root_at blocks nodes node net = is_none (joined_with (if node == 0 then [] else joins_of_node blocks nodes node) net)

-- whether a flat net is a net on a node's path itself
abbrev pub is_itself : Numbering → ℕ → ℕ → ℕ → Bool
is_itself n number node net =
    let p = slice_index_or n.places number no_place in
    p.node == node && p.net == net
