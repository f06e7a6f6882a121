-- The flat parts of a design (docs/DEFINITIONS.md, "Flat parts").
use Rattle.std.specs.Prelude.{option_map, ℕ, ◌+◌, ◌<◌, Bool, false, not, ◌&&◌, ◌||◌, ◌==◌, if◌then◌else◌, List, [], ◌∷◌, ◌++◌, length, map, filter, take}
use Rattle.std.specs.Prelude.{drop, codes, All, Option, Some, None, is_some, is_none, find, unwrap_or, slice_index_or}
use Rattle.std.specs.List.{IsDistinct, position_or_len, prefix_len}
use Rattle.std.specs.Bool.{beq, nat_eq}
use Rattle.std.specs.Str.{bytes_eq}
use Rattle.bs_net.specs.declared.net.NetId.{NetId}
use Rattle.bs_net.specs.declared.net.Gate.{Gate}
use Rattle.bs_net.specs.declared.net.Flop.{Flop}
use Rattle.bs_net.specs.declared.net.Mode.{Mode}
use Rattle.bs_net.specs.declared.net.Mode.TheVariants.{Plain, Enable, Clear}
use Rattle.bs_net.specs.declared.net.Const.{Const}
use Rattle.bs_net.specs.Parts.{Parts, IsFlopPlaced}
use Rattle.bs_verilog_scope.specs.Keys.{constant_key}
use Rattle.bs_flat_meaning.specs.Design.{Design, Module, Instance, Join, Path, At, PathNet, net_on, own, module_in, module_at, instance_in, path_nets, flops}
use Rattle.bs_flat_meaning.specs.Design.{constants, gates, joins_at}
use Rattle.bs_flat_meaning.specs.Meaning.{joined_with, root_of, is_same}

-- ---- constants

-- whether a constant's net has the key of that constant: a supply has not
abbrev pub is_named_so : Parts → Const → Bool
is_named_so parts k = bytes_eq (slice_index_or parts.names k.net.0 []) (constant_key k.value)

-- the bit of a net that is `1'b0` or `1'b1`
abbrev pub constant_bit : Parts → ℕ → Option Bool
constant_bit parts n = option_map (λ k. k.value) (find (λ k. k.net.0 == n && is_named_so parts k) parts.consts)

abbrev pub bit_of : Design → PathNet → Option Bool
bit_of d a = constant_bit (own d a.path) a.it

-- whether a net is joined with no net of its parent
abbrev pub is_root : Design → PathNet → Bool
is_root d a = is_none (joined_with (joins_at d a.path) a.it)

-- whether a net is this constant, or none
abbrev pub is_bit : Bool → Option Bool → Bool
is_bit b (Some c) = beq b c
is_bit b None = false

-- the first net of a constant in the whole design
unfoldable pub first_constant : Design → Bool → PathNet
first_constant d b = unwrap_or (find (λ a. is_root d a && is_bit b (bit_of d a)) (path_nets d)) (record { path = []; it = 0 })

-- ---- nets

-- the net that stands for one to which joins lead: a constant is one net in the whole design
abbrev pub home_from : Design → PathNet → Option Bool → PathNet
home_from d r (Some b) = first_constant d b
home_from d r None = r

-- the net that stands for a net on a path
unfoldable pub home : Design → PathNet → PathNet
home d a = home_from d (root_of d a) (bit_of d (root_of d a))

-- the flat nets: the top's, and then each instance's that are joined to no net of its parent, a constant where it stands first
unfoldable pub flat_nets : Design → List PathNet
flat_nets d = filter (λ a. is_same (home d a) a) (path_nets d)

-- the number of the flat net that stands for a net on a path
unfoldable pub flat_number : Design → PathNet → ℕ
flat_number d a = position_or_len (is_same (home d a)) (flat_nets d)

abbrev pub flat_net : Design → Path → NetId → NetId
flat_net d p n = record { 0 = flat_number d (net_on p n) }

-- ---- keys

-- the instance names of a path, joined by `.`, each with the `.` behind it
unfoldable pub path_text : Design → Path → List ℕ
path_text d [] = []
path_text d (i ∷ p) = path_text d p ++ ((instance_in (module_at d p) i).name ++ codes ".")

-- a key with a path's names before its name: the index of a vector's bit moves to the front
abbrev pub key_below : List ℕ → List ℕ → List ℕ
key_below path key =
    let index = prefix_len (λ c. not (c == 92)) key in
    let name = prefix_len (λ c. not (c == 91)) key in
    if index == length key then drop name key ++ (codes "\\" ++ (path ++ take name key))
    else take index key ++ (codes "\\" ++ (path ++ drop (index + 1) key))

-- the key of a net on a path
unfoldable pub flat_key : Design → PathNet → List ℕ
flat_key d a =
    let key = slice_index_or (own d a.path).names a.it [] in
    if length a.path == 0 || is_some (bit_of d a) then key else key_below (path_text d a.path) key

-- ---- the flat parts

abbrev pub flat_gate : Design → At Gate → Gate
flat_gate d g = record { kind = g.it.kind; out = flat_net d g.path g.it.out; ins = map (flat_net d g.path) g.it.ins }

abbrev pub flat_mode : Design → Path → Mode → Mode
flat_mode d p Plain = Plain
flat_mode d p (Enable e) = Enable (flat_net d p e)
flat_mode d p (Clear r) = Clear (flat_net d p r)

abbrev pub flat_flop : Design → At Flop → Flop
flat_flop d f =
    record {
      q = flat_net d f.path f.it.q;
      d = flat_net d f.path f.it.d;
      ck = flat_net d f.path f.it.ck;
      reset = f.it.reset;
      mode = flat_mode d f.path f.it.mode;
    }

abbrev pub flat_const : Design → At Const → Const
flat_const d k = record { net = flat_net d k.path k.it.net; value = k.it.value }

-- a constant that stands elsewhere before
abbrev pub is_repeat : Design → At Const → Bool
is_repeat d k = let a = net_on k.path k.it.net in is_root d a && is_named_so (own d k.path) k.it && not (is_same (home d a) a)

-- the flat parts of a design
unfoldable pub flat_parts : Design → Parts
flat_parts d =
    record {
      names = map (flat_key d) (flat_nets d);
      inputs = map (flat_net d []) (own d []).inputs;
      outputs = map (flat_net d []) (own d []).outputs;
      consts = map (flat_const d) (filter (λ k. not (is_repeat d k)) (constants d));
      gates = map (flat_gate d) (gates d);
      flops = map (flat_flop d) (flops d);
    }

-- ---- what a design keeps

-- the bits of a join are nets of its two modules
abbrev pub IsJoin : Module → Module → Join → Type 0
IsJoin m below j = (j.outer.0 < length m.own.names) × (j.inner.0 < length below.own.names)

-- the joins of an instance are nets of the two modules, and each net of the instance stands in one join at most
pub record IsInstance (m below : Module) (i : Instance) : Type 0 where
  pub within : All (IsJoin m below) i.joins
  pub once : IsDistinct nat_eq (map (λ j. j.inner.0) i.joins)

-- each net of the parts has a name
pub record HasNets (parts : Parts) : Type 0 where
  pub inputs : All (λ n. n.0 < length parts.names) parts.inputs
  pub outputs : All (λ n. n.0 < length parts.names) parts.outputs
  pub consts : All (λ k. k.net.0 < length parts.names) parts.consts
  pub gates : All (λ g. (g.out.0 < length parts.names) × All (λ n. n.0 < length parts.names) g.ins) parts.gates
  pub flops : All (IsFlopPlaced (length parts.names)) parts.flops

-- a module of a design
pub record IsModule (d : Design) (m : Module) : Type 0 where
  pub nets : HasNets m.own
  pub instances : All (λ i. IsInstance m (module_in d i.of) i) m.instances

abbrev pub IsDesign : Design → Type 0
IsDesign d = All (IsModule d) d.modules
