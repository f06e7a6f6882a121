-- The flat nets, taken one by one: each net that is no constant, and a constant the first time.
use Rattle.std.specs.Prelude.{◌≡◌, ℕ, ◌<◌, Bool, true, false, if◌then◌else◌, ◌==◌, List, [], ◌∷◌, ◌++◌, length, map, filter, slice_index_or, All, Option, Some, None}
use Rattle.std.specs.Prelude.{is_some, find, option_map}
use Rattle.bs_flat_meaning.specs.Design.{Design, PathNet}
use Rattle.bs_flat_meaning.specs.Meaning.{is_same}
use Rattle.bs_flat_meaning.specs.Flat.{bit_of, is_bit, first_constant, home}
use Rattle.bs_flat_meaning.specs.declared.paths.Node.{Node}
use Rattle.bs_flat_nets.specs.Blocks.{design_of}
use Rattle.bs_flat_nets.specs.Free.{roots}
use Rattle.bs_flat_nets.specs.declared.blocks.FlatModule.{FlatModule}
use Rattle.bs_flat_nets.specs.declared.climbing.NetOnPath.{NetOnPath}
use Rattle.bs_flat_nets.specs.declared.constants.Bit.{Bit}
use Rattle.bs_flat_nets.specs.Numbering.{net_at, no_net, AreByNode}
use Rattle.bs_flat_nets.specs.declared.tally.NetTally.{NetTally}

-- the bit of a net by a list of constants
abbrev pub bit_in : List Bit → ℕ → Option Bool
bit_in bits n = option_map (λ b. b.value) (find (λ b. b.net == n) bits)

-- where the first net of a constant stands, if it was met
abbrev pub first_of : NetTally → Bool → Option ℕ
first_of t true = t.one
first_of t false = t.zero

-- the tally of no nets
abbrev pub no_tally : NetTally
no_tally = record { places = []; zero = None; one = None }

-- a tally and a net more
abbrev pub with_plain : NetTally → NetOnPath → NetTally
with_plain t p = record { places = t.places ++ p ∷ []; zero = t.zero; one = t.one }

abbrev pub with_first : NetTally → NetOnPath → Bool → NetTally
with_first t p true = record { places = t.places ++ p ∷ []; zero = t.zero; one = Some (length t.places) }
with_first t p false = record { places = t.places ++ p ∷ []; zero = Some (length t.places); one = t.one }

abbrev pub with_constant : NetTally → NetOnPath → Bool → NetTally
with_constant t p b = if is_some (first_of t b) then t else with_first t p b

abbrev pub with_net : NetTally → NetOnPath → Option Bool → NetTally
with_net t p None = with_plain t p
with_net t p (Some b) = with_constant t p b

-- a tally and nets of a node more, by the constants of its block
abbrev pub with_nets : NetTally → ℕ → List Bit → List ℕ → NetTally
with_nets t node bits [] = t
with_nets t node bits (n ∷ ns) = with_nets (with_net t (record { node = node; net = n }) (bit_in bits n)) node bits ns

-- whether a net stands for itself
abbrev pub is_home : Design → PathNet → Bool
is_home d a = is_same (home d a) a

-- the first of some nets that is a constant
abbrev pub found_in : Design → Bool → List PathNet → Option PathNet
found_in d b nets = find (λ a. is_bit b (bit_of d a)) nets

-- what is known of a constant's first net among some nets
pub record IsFound (d : Design) (b : Bool) (nets : List PathNet) (places : List NetOnPath) (first : Option ℕ) : Type 0 where
  pub none : first ≡ None → found_in d b nets ≡ None
  pub found : (n : ℕ) → first ≡ Some n → found_in d b nets ≡ Some (first_constant d b)
  pub within : (n : ℕ) → first ≡ Some n → n < length places
  pub is : (n : ℕ) → first ≡ Some n → slice_index_or (map (net_at d) places) n no_net ≡ first_constant d b

-- the flat nets among some nets to which joins lead
pub record IsTally (d : Design) (nets : List PathNet) (t : NetTally) : Type 0 where
  pub are : map (net_at d) t.places ≡ filter (is_home d) nets
  pub first : (b : Bool) → IsFound d b nets t.places (first_of t b)

-- the flat nets on all paths are taken, and the list has where those of each node begin
pub record IsWholeTally (blocks : List FlatModule) (nodes : List Node) (top : ℕ) (t : NetTally) (starts : List ℕ) : Type 0 where
  pub nets : IsTally (design_of blocks top) (roots (design_of blocks top)) t
  pub placed : All (λ p. p.node < length nodes) t.places
  pub by_node : AreByNode t.places starts
