-- The flat nets of a design in order, by the nodes of their paths.
use Rattle.std.specs.Prelude.{◌≡◌, ℕ, ◌+◌, ◌<◌, ◌≤◌, ◌==◌, ◌&&◌, ◌||◌, nat_lt, Bool, false, true, List, [], length, map, slice_index_or, All, IfSome, find}
use Rattle.std.specs.Prelude.{Option, Some, None}
use Rattle.bs_flat_meaning.specs.Design.{Design, PathNet, on}
use Rattle.bs_flat_meaning.specs.Flat.{flat_nets, first_constant, bit_of, is_bit}
use Rattle.bs_flat_meaning.specs.declared.paths.Node.{Node}
use Rattle.bs_flat_nets.specs.Blocks.{design_of}
use Rattle.bs_flat_nets.specs.Climbing.{path_in}
use Rattle.bs_flat_nets.specs.Free.{roots}
use Rattle.bs_flat_nets.specs.Sums.{all_bits_of}
use Rattle.bs_flat_nets.specs.declared.blocks.FlatModule.{FlatModule}
use Rattle.bs_flat_nets.specs.declared.climbing.NetOnPath.{NetOnPath}
use Rattle.bs_flat_nets.specs.Rows.{AreRows}
use Rattle.bs_flat_nets.specs.declared.numbers.Numbering.{Numbering}

-- the net that a place is, on the path of its node
abbrev pub net_at : Design → NetOnPath → PathNet
net_at d p = on (path_in d p.node) p.net

-- the net of nothing, which stands past the end of a list
abbrev pub no_net : PathNet
no_net = record { path = []; it = 0 }

-- a flat net is the first of a constant
abbrev pub IsFirst : Design → Bool → ℕ → Type 0
IsFirst d b n = (n < length (flat_nets d)) × (slice_index_or (flat_nets d) n no_net ≡ first_constant d b)

-- no net to which joins lead is this constant
abbrev pub HasNoBit : Design → Bool → Type 0
HasNoBit d b = find (λ a. is_bit b (bit_of d a)) (roots d) ≡ None

-- a place of nothing, which stands past the end of a list
abbrev pub no_place : NetOnPath
no_place = record { node = 0; net = 0 }

-- whether a place stands before another: by its node, and then by its net
abbrev pub is_before : NetOnPath → NetOnPath → Bool
is_before a b = nat_lt a.node b.node || (a.node == b.node && nat_lt a.net b.net)

-- the places rise
pub record AreRising (places : List NetOnPath) : Type 0 where
  pub rise : (i j : ℕ) → i < j → j < length places → is_before (slice_index_or places i no_place) (slice_index_or places j no_place) ≡ true

-- the places rise, and those of each node stand from its start on, before the next start
pub record AreByNode (places : List NetOnPath) (starts : List ℕ) : Type 0 where
  pub rising : AreRising places
  pub next : (i : ℕ) → i < length places → (slice_index_or places i no_place).node + 1 < length starts
  pub from : (i : ℕ) → i < length places → slice_index_or starts (slice_index_or places i no_place).node 0 ≤ i
  pub before : (i : ℕ) → i < length places → i < slice_index_or starts ((slice_index_or places i no_place).node + 1) 0

-- the flat nets in order, by the nodes of their paths; the constants of all blocks; the first net of each constant, where
-- there is one; and the runs of all instances in order
pub record IsNumbering (blocks : List FlatModule) (nodes : List Node) (top : ℕ) (n : Numbering) : Type 0 where
  pub nets : map (net_at (design_of blocks top)) n.places ≡ flat_nets (design_of blocks top)
  pub placed : All (λ p. p.node < length nodes) n.places
  pub known : n.bits ≡ all_bits_of blocks
  pub first_zero : IfSome n.zero (IsFirst (design_of blocks top) false)
  pub first_one : IfSome n.one (IsFirst (design_of blocks top) true)
  pub no_zero : n.zero ≡ None → HasNoBit (design_of blocks top) false
  pub no_one : n.one ≡ None → HasNoBit (design_of blocks top) true
  pub by_node : AreByNode n.places n.starts
  pub rows : AreRows blocks n.rows

-- Of the places from one on up to another, whatever stands there: the last before this one stands before the place, and this one,
-- if it is before the end, does not. Where they rise, this is the first that does not.
pub record IsFirstFrom (places : List NetOnPath) (from stop : ℕ) (place : NetOnPath) (at : ℕ) : Type 0 where
  pub within : at ≤ stop
  pub least : from ≤ stop → from ≤ at
  pub below : (i : ℕ) → at ≡ i + 1 → from ≤ i → is_before (slice_index_or places i no_place) place ≡ true
  pub above : at < stop → is_before (slice_index_or places at no_place) place ≡ false

-- a place stands nowhere
pub record IsNowhere (places : List NetOnPath) (place : NetOnPath) : Type 0 where
  pub is : (i : ℕ) → i < length places → slice_index_or places i no_place ≡ place → ⊥

-- the number of a place's net among the flat nets, which are told by its bit, where that is known
abbrev pub IsNumberIn : Numbering → Option Bool → NetOnPath → ℕ → Type 0
IsNumberIn n None p i = (i < length n.places) × (slice_index_or n.places i no_place ≡ p)
IsNumberIn n (Some true) p i = n.one ≡ Some i
IsNumberIn n (Some false) p i = n.zero ≡ Some i

-- there is none
abbrev pub IsNoNumberIn : Numbering → Option Bool → NetOnPath → Type 0
IsNoNumberIn n None p = IsNowhere n.places p
IsNoNumberIn n (Some true) p = n.one ≡ None
IsNoNumberIn n (Some false) p = n.zero ≡ None
