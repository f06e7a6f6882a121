-- How far two names are apart, and which keys of a netlist's flip-flops are nearest to a name.
use Rattle.std.specs.Prelude.{◌≡◌, ◌⊎◌, ◌≤◌, ◌<◌, ◌==◌, ◌-◌, ℕ, suc, List, [], ◌∷◌, length, reverse, drop, max, slice_index_or, slice_get, All, if◌then◌else◌}
use Rattle.std.specs.List.{Contains}
use Rattle.std.specs.List.Sorted.{IsStrictlyIncreasing}
use Rattle.std.specs.Option.{option_map, unwrap_or}
use Rattle.bs_net.specs.declared.net.NetId.{NetId}
use Rattle.bs_net.specs.Parts.{Parts}
use Rattle.bs_net_names.specs.Rtl.{rtl_name}
use Rattle.bs_net_names.specs.declared.nearest.TheConstants.{NAMED}

-- how many bytes two names have in common at their front
abbrev pub common : List ℕ → List ℕ → ℕ
common [] b = 0
common (x ∷ xs) [] = 0
common (x ∷ xs) (y ∷ ys) = if x == y then suc (common xs ys) else 0

-- what is left of two names behind so many bytes, read from the end
abbrev pub common_behind : List ℕ → List ℕ → ℕ → ℕ
common_behind a b front = common (reverse (drop front a)) (reverse (drop front b))

-- how many bytes of the longer name are left where the common front and then the common end are taken away
abbrev pub apart : List ℕ → List ℕ → ℕ
apart a b = max (length a) (length b) - common a b - common_behind a b (common a b)

-- the key of a net
abbrev pub net_key : Parts → NetId → List ℕ
net_key r n = slice_index_or r.names n.0 []

-- the key of a flip-flop: that of its output net
abbrev pub key_at : Parts → ℕ → List ℕ
key_at r flop = unwrap_or (option_map (λ f. net_key r f.q) (slice_get r.flops flop)) []

-- how far the key of a flip-flop, as RTL writes it, is from a name that RTL writes
abbrev pub flop_apart : Parts → List ℕ → ℕ → ℕ
flop_apart r name flop = apart name (rtl_name (key_at r flop))

-- no key of a flip-flop is nearer to the name than this
abbrev pub IsLeast : Parts → List ℕ → ℕ → Type 0
IsLeast r name least = (flop : ℕ) → flop < length r.flops → least ≤ flop_apart r name flop

-- it is a flip-flop, and no flip-flop's key is nearer to the name than its key
pub record IsNearest (r : Parts) (name : List ℕ) (flop : ℕ) : Type 0 where
  pub there : flop < length r.flops
  pub least : IsLeast r name (flop_apart r name flop)

-- it is one, and each flip-flop before it is farther
pub record IsFirstNearest (r : Parts) (name : List ℕ) (flop : ℕ) : Type 0 where
  pub is : IsNearest r name flop
  pub first : (other : ℕ) → other < flop → flop_apart r name flop < flop_apart r name other

-- a nearest one is listed, or there are as many as are named and all of them stand before it
abbrev pub IsListed : List ℕ → ℕ → Type 0
IsListed flops flop = Contains flops flop ⊎ ((length flops ≡ NAMED) × All (λ other. other < flop) flops)

-- the first of the nearest, in order and each once: all of them, or as many as are named; at least one where there is any flip-flop
pub record AreNearest (r : Parts) (name : List ℕ) (flops : List ℕ) : Type 0 where
  pub few : length flops ≤ NAMED
  pub nearest : All (IsNearest r name) flops
  pub some : 0 < length r.flops → 0 < length flops
  pub in_order : IsStrictlyIncreasing flops
  pub all : (flop : ℕ) → IsNearest r name flop → IsListed flops flop

-- the same of the flip-flops before one, of which at least one is listed
pub record AreNearestBelow (r : Parts) (name : List ℕ) (below : ℕ) (flops : List ℕ) : Type 0 where
  pub few : length flops ≤ NAMED
  pub nearest : All (IsNearest r name) flops
  pub some : 0 < length flops
  pub in_order : IsStrictlyIncreasing flops
  pub before : All (λ flop. flop < below) flops
  pub all : (flop : ℕ) → flop < below → IsNearest r name flop → IsListed flops flop
