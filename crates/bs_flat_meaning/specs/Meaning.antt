-- The meaning of a design: when a valuation of the nets on all paths fits, and the next state. No flat net occurs in it.
use Rattle.std.specs.Prelude.{◌≡◌, ℕ, Bool, false, not, ◌&&◌, ◌==◌, if◌then◌else◌, List, [], ◌∷◌, ◌++◌, map, filter, All, Option, Some, None, find, option_map}
use Rattle.std.specs.List.{Contains}
use Rattle.std.specs.Str.{bytes_eq}
use Rattle.bs_net.specs.declared.net.NetId.{NetId}
use Rattle.bs_net.specs.declared.net.Gate.{Gate}
use Rattle.bs_net.specs.declared.net.Flop.{Flop}
use Rattle.bs_net.specs.declared.net.Mode.{Mode}
use Rattle.bs_net.specs.declared.net.Mode.TheVariants.{Plain, Enable, Clear}
use Rattle.bs_net.specs.Gate.{gate_value}
use Rattle.bs_flat_meaning.specs.Design.{Design, Join, Path, At, PathNet, net_on, own, path_nets, flops, constants, gates, joins, joins_at, outer, inner}

-- ---- joined nets

-- joined bits lead from one net to another, over any number of joins
pub data IsLinked (d : Design) : PathNet → PathNet → Type 0 where
  itself : (a : PathNet) → IsLinked d a a
  outward : (j : At Join) (b : PathNet) → Contains (joins d) j → IsLinked d (outer j) b → IsLinked d (inner j) b
  inward : (j : At Join) (b : PathNet) → Contains (joins d) j → IsLinked d (inner j) b → IsLinked d (outer j) b

-- the net of its parent with which a net is joined, if there is one
abbrev pub joined_with : List Join → ℕ → Option ℕ
joined_with js n = option_map (λ j. j.outer.0) (find (λ j. j.inner.0 == n) js)

-- the uppermost net to which joins lead
unfoldable pub root : Design → Path → ℕ → PathNet
root d [] n = record { path = []; it = n }
root d (i ∷ p) n = elim (joined_with (joins_at d (i ∷ p)) n) [ Some m ↦ root d p m | None ↦ record { path = i ∷ p; it = n } ]

-- the uppermost net of a net on a path
abbrev pub root_of : Design → PathNet → PathNet
root_of d a = root d a.path a.it

-- whether two are the same net on the same path
abbrev pub is_same : PathNet → PathNet → Bool
is_same a b = bytes_eq a.path b.path && a.it == b.it

-- ---- driven nets

-- every net that something drives, once for each driver: an input port bit drives its net in the top alone
abbrev pub driven : Design → List PathNet
driven d =
    map (net_on []) (own d []).inputs
    ++ (map (λ f. net_on f.path f.it.q) (flops d) ++ (map (λ k. net_on k.path k.it.net) (constants d) ++ map (λ g. net_on g.path g.it.out) (gates d)))

-- neither the net nor one that joins lead to is driven
abbrev pub IsUndriven : Design → PathNet → Type 0
IsUndriven d a = (b : PathNet) → IsLinked d a b → Contains (driven d) b → ⊥

-- ---- the clock

-- the clock net of the first flip-flop
abbrev pub clock_in : List (At Flop) → PathNet
clock_in [] = record { path = []; it = 0 }
clock_in (f ∷ fs) = net_on f.path f.it.ck

abbrev pub clock : Design → PathNet
clock d = clock_in (flops d)

-- the input port bits of the top without the one to which joins lead from the clock
abbrev pub data_inputs : Design → List NetId
data_inputs d = filter (λ n. not (is_same (net_on [] n) (root_of d (clock d)))) (own d []).inputs

-- ---- valuations

-- one bit for each net on each path
abbrev pub Valuation : Type 0
Valuation = PathNet → Bool

-- a gate's output shows the value of its inputs on its own path
abbrev pub IsSettledAt : Valuation → At Gate → Type 0
IsSettledAt v g = v (net_on g.path g.it.out) ≡ gate_value g.it.kind (map (λ n. v (net_on g.path n)) g.it.ins)

-- the valuation v fits the state s and the input x
pub record FitsDesign (d : Design) (s x : List Bool) (v : Valuation) : Type 0 where
  pub input : map (λ n. v (net_on [] n)) (data_inputs d) ≡ x
  pub state : map (λ f. v (net_on f.path f.it.q)) (flops d) ≡ s
  pub constants : All (λ k. v (net_on k.path k.it.net) ≡ k.it.value) (constants d)
  pub gates : All (IsSettledAt v) (gates d)
  pub joins : All (λ j. v (outer j) ≡ v (inner j)) (joins d)
  pub clock : v (clock d) ≡ false
  pub zeros : All (λ a. IsUndriven d a → v a ≡ false) (path_nets d)

-- ---- the next state

-- the bit that a mode loads on a path, of the bit of d and the bit of q: the bit of d, where an enable shows 0 the bit of q, and 0
-- where a clear shows 1
abbrev pub mode_loads_on : Path → Valuation → Mode → Bool → Bool → Bool
mode_loads_on p v Plain d q = d
mode_loads_on p v (Enable e) d q = if v (net_on p e) then d else q
mode_loads_on p v (Clear r) d q = if v (net_on p r) then false else d

-- the bit that a flip-flop loads at a clock edge, by the nets of its own path
abbrev pub loaded_on : Valuation → At Flop → Bool
loaded_on v f = mode_loads_on f.path v f.it.mode (v (net_on f.path f.it.d)) (v (net_on f.path f.it.q))

-- the bits that the flip-flops load
abbrev pub loaded_by : Design → Valuation → List Bool
loaded_by d v = map (loaded_on v) (flops d)

-- s leads to p under x
abbrev pub LeadsDesign : Design → List Bool → List Bool → List Bool → Type 0
LeadsDesign d s x p = (v : Valuation) × FitsDesign d s x v × (loaded_by d v ≡ p)

-- exactly one valuation fits: another gives each net on each path the same bit
abbrev pub OneFitsDesign : Design → List Bool → List Bool → Type 0
OneFitsDesign d s x = (v : Valuation) × FitsDesign d s x v × ((w : Valuation) → FitsDesign d s x w → All (λ a. w a ≡ v a) (path_nets d))
