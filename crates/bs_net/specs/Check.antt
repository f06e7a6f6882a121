-- The check of a netlist: each refusal, in its order (docs/DEFINITIONS.md, "Refusals of the check").
use Rattle.std.specs.Prelude.{◌≡◌, ◌≢◌, ℕ, Bool, not, ◌&&◌, ◌||◌, ◌==◌, List, [], ◌++◌, length, map, find, count_by, nat_lt, Option, Some, None, if◌then◌else◌}
use Rattle.std.specs.List.{list_any, flat_map}
use Rattle.std.specs.Option.{option_map}
use Rattle.bs_net.specs.declared.limits.TheConstants.{MAX_FLOPS, MAX_INPUTS, MAX_TERMINALS}
use Rattle.bs_net.specs.declared.net.NetId.{NetId}
use Rattle.bs_net.specs.declared.net.Gate.{Gate}
use Rattle.bs_net.specs.Parts.{Parts, load_nets}
use Rattle.bs_net.specs.declared.fault.Count.{Count}
use Rattle.bs_net.specs.declared.fault.Count.TheVariants.{Flops, Inputs, Terminals}
use Rattle.bs_net.specs.declared.fault.NetFault.{NetFault}
use Rattle.bs_net.specs.declared.fault.NetFault.TheVariants.{TooMany, SecondDriver, Undriven, Loop, NoFlop, ClockMixed, NoMemory}
use Rattle.bs_net.specs.Lowest.{IsLowest, NonePasses}
use Rattle.bs_net.specs.Loops.{IsLoop}
use Rattle.bs_net.specs.Netlist.{clock_of}
use Rattle.bs_net.specs.Order.{IsOrder}

-- ---- too many of something

-- how many inputs a gate has that has too many
abbrev pub wide_gate : Option Gate → Option (Count × ℕ)
wide_gate None = None
wide_gate (Some g) = Some (Terminals, length g.ins)

-- too many flip-flops, or else too many input port bits, or else a first gate with too many inputs
abbrev pub too_many : Parts → Option (Count × ℕ)
too_many r =
    if nat_lt MAX_FLOPS (length r.flops)
    then Some (Flops, length r.flops)
    else if nat_lt MAX_INPUTS (length r.inputs)
    then Some (Inputs, length r.inputs)
    else wide_gate (find (λ g. nat_lt MAX_TERMINALS (length g.ins)) r.gates)

-- ---- drivers and readers of a net

-- every net that something drives, once for each driver: a port bit, a flip-flop's q, a constant, a gate's output
abbrev pub driver_nets : Parts → List NetId
driver_nets r = r.inputs ++ (map (λ f. f.q) r.flops ++ (map (λ k. k.net) r.consts ++ map (λ g. g.out) r.gates))

-- every net that something reads: a gate's input, a d, an e, an r, a ck, an output port bit
abbrev pub reader_nets : Parts → List NetId
reader_nets r = flat_map (λ g. g.ins) r.gates ++ (flat_map load_nets r.flops ++ (map (λ f. f.ck) r.flops ++ r.outputs))

-- how often a net stands in a list
abbrev pub times_in : List NetId → ℕ → ℕ
times_in nets n = count_by (λ m. n == m.0) nets

-- whether a net has two drivers or more
abbrev pub is_shared : Parts → ℕ → Bool
is_shared r n = nat_lt 1 (times_in (driver_nets r) n)

-- whether a net is read and has no driver
abbrev pub is_undriven : Parts → ℕ → Bool
is_undriven r n = nat_lt 0 (times_in (reader_nets r) n) && not (nat_lt 0 (times_in (driver_nets r) n))

-- ---- an order of the gates

-- an order of the gates exists in which each reads no output of itself or a later one
abbrev pub HasOrder : List Gate → Type 0
HasOrder gates = (order : List ℕ) × IsOrder gates order

-- ---- the clock

-- the first of two that is there
abbrev pub first_of : Option NetId → Option NetId → Option NetId
first_of (Some n) other = Some n
first_of None other = other

-- whether a gate, a d, an e or an r reads a net
abbrev pub is_data : Parts → NetId → Bool
is_data r n =
    list_any (λ g. list_any (λ m. n.0 == m.0) g.ins) r.gates || list_any (λ f. list_any (λ m. n.0 == m.0) (load_nets f)) r.flops

-- the first clock of a flip-flop that is another net
abbrev pub other_clock : Parts → Option NetId
other_clock r = option_map (λ f. f.ck) (find (λ f. not (f.ck.0 == (clock_of r.flops).0)) r.flops)

-- the clock, where it is read as data
abbrev pub data_clock : Parts → Option NetId
data_clock r = if is_data r (clock_of r.flops) then Some (clock_of r.flops) else None

-- the clock of the first flip-flop, where it is no input port bit; or else the first other clock; or else the clock, where it
-- is read as data
abbrev pub mixed_clock : Parts → Option NetId
mixed_clock r =
    if not (list_any (λ m. (clock_of r.flops).0 == m.0) r.inputs)
    then Some (clock_of r.flops)
    else first_of (other_clock r) (data_clock r)

-- ---- the first that holds

-- none of the refusals before that of a loop
pub record PassesNets (r : Parts) : Type 0 where
  pub few : too_many r ≡ None
  pub single : NonePasses (is_shared r) (length r.names)
  pub driven : NonePasses (is_undriven r) (length r.names)

-- none of the refusals
pub record Passes (r : Parts) : Type 0 where
  pub nets : PassesNets r
  pub ordered : HasOrder r.gates
  pub some_flop : r.flops ≢ []
  pub one_clock : mixed_clock r ≡ None

-- a fault is told exactly where its test is the first to fail; out of memory is free
abbrev pub IsFault : Parts → NetFault → Type 0
IsFault r (TooMany kind count) = too_many r ≡ Some (kind, count)
IsFault r (SecondDriver n) = (too_many r ≡ None) × IsLowest (is_shared r) (length r.names) n.0
IsFault r (Undriven n) =
    (too_many r ≡ None) × NonePasses (is_shared r) (length r.names) × IsLowest (is_undriven r) (length r.names) n.0
IsFault r (Loop loop) = PassesNets r × (HasOrder r.gates → ⊥) × IsLoop r.gates loop
IsFault r NoFlop = PassesNets r × HasOrder r.gates × (r.flops ≡ [])
IsFault r (ClockMixed n) = PassesNets r × HasOrder r.gates × (r.flops ≢ []) × (mixed_clock r ≡ Some n)
IsFault r NoMemory = Unit {0}

-- each refusal but out of memory excludes that the netlist passes
abbrev pub RefusedDoNotPass : Type 0
RefusedDoNotPass = (r : Parts) (fault : NetFault) → fault ≢ NoMemory → IsFault r fault → Passes r → ⊥
