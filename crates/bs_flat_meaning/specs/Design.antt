-- A hierarchical design: modules with parts of their own, and instances of modules with joined bits (docs/DEFINITIONS.md, "Design").
use Rattle.std.specs.Prelude.{ℕ, zero, suc, ◌+◌, List, [], ◌∷◌, length, map, slice_index_or}
use Rattle.std.specs.List.{flat_map, range_with_len}
use Rattle.bs_net.specs.declared.net.NetId.{NetId}
use Rattle.bs_net.specs.declared.net.Gate.{Gate}
use Rattle.bs_net.specs.declared.net.Flop.{Flop}
use Rattle.bs_net.specs.declared.net.Const.{Const}
use Rattle.bs_net.specs.Parts.{Parts}
use Rattle.bs_flat_meaning.specs.declared.limits.TheConstants.{MAX_DEPTH}

-- ---- modules

-- a net of a module and the net of an instance in it that a connection joins with it, one bit each
pub record Join : Type 0 where
  pub outer : NetId
  pub inner : NetId

-- an instance: its name, the number of its module, and the joined bits
pub record Instance : Type 0 where
  pub name : List ℕ
  pub of : ℕ
  pub joins : List Join

-- a module: its own parts, and its instances in file order
pub record Module : Type 0 where
  pub own : Parts
  pub instances : List Instance

-- a design: its modules in file order, and the number of the top
pub record Design : Type 0 where
  pub modules : List Module
  pub top : ℕ

-- a module without parts, which stands past the end of a list
abbrev pub no_module : Module
no_module = record { own = record { names = []; inputs = []; outputs = []; consts = []; gates = []; flops = [] }; instances = [] }

-- an instance of nothing, which stands past the end of a list
abbrev pub no_instance : Instance
no_instance = record { name = []; of = 0; joins = [] }

-- the module with a number
abbrev pub module_in : Design → ℕ → Module
module_in d n = slice_index_or d.modules n no_module

-- ---- paths

-- the places of the instances on the way from the top, the last one first; the top's path is empty
abbrev pub Path : Type 0
Path = List ℕ

-- an instance of a module by its place
abbrev pub instance_in : Module → ℕ → Instance
instance_in m i = slice_index_or m.instances i no_instance

-- the module on a path
unfoldable pub module_at : Design → Path → Module
module_at d [] = module_in d d.top
module_at d (i ∷ p) = module_in d (instance_in (module_at d p) i).of

-- the bits by which the instance at a path's end is joined
abbrev pub joins_at : Design → Path → List Join
joins_at d [] = []
joins_at d (i ∷ p) = (instance_in (module_at d p) i).joins

-- the path of the module in which the instance at a path's end stands
abbrev pub parent : Path → Path
parent [] = []
parent (i ∷ p) = p

-- a path and those below it, of at most so many levels: the path itself first, and then the instances in file order, each whole
unfoldable pub paths_from : ℕ → Design → Path → List Path
paths_from zero d p = []
paths_from (suc levels) d p =
    p ∷ flat_map (λ i. paths_from levels d (i ∷ p)) (range_with_len 0 (length (module_at d p).instances))

-- all paths of at most `MAX_DEPTH` instance names, in the order of the design
unfoldable pub paths : Design → List Path
paths d = paths_from (MAX_DEPTH + 1) d []

-- ---- what stands on each path

-- something of a module, on a path
pub record At (A : Type 0) : Type 0 where
  pub path : Path
  pub it : A

-- a net on a path
abbrev pub PathNet : Type 0
PathNet = At ℕ

abbrev pub net_on : Path → NetId → PathNet
net_on p n = record { path = p; it = n.0 }

-- something on a path
abbrev pub on : {A : Type 0} → Path → A → At A
on p a = record { path = p; it = a }

-- what stands on each path, in the order of the design
abbrev pub on_each : {A : Type 0} → Design → (Path → List A) → List (At A)
on_each d f = flat_map (λ p. map (on p) (f p)) (paths d)

-- the own parts on a path
abbrev pub own : Design → Path → Parts
own d p = (module_at d p).own

-- the nets, flip-flops, constants and gates of the top and of all paths, and the joined bits
abbrev pub path_nets : Design → List PathNet
path_nets d = on_each d (λ p. range_with_len 0 (length (own d p).names))

abbrev pub flops : Design → List (At Flop)
flops d = on_each d (λ p. (own d p).flops)

abbrev pub constants : Design → List (At Const)
constants d = on_each d (λ p. (own d p).consts)

abbrev pub gates : Design → List (At Gate)
gates d = on_each d (λ p. (own d p).gates)

abbrev pub joins : Design → List (At Join)
joins d = on_each d (joins_at d)

-- the two nets of a joined bit
abbrev pub outer : At Join → PathNet
outer j = net_on (parent j.path) j.it.outer

abbrev pub inner : At Join → PathNet
inner j = net_on j.path j.it.inner
