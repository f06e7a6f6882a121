-- What the functions that tell layers of accounts promise each other.
use Rattle.std.specs.Prelude.{◌≡◌, ◌⊎◌, ℕ, ◌+◌, ◌-◌, ◌<◌, ◌≤◌, Bool, true, false, List, [], ◌++◌, length, take, All, Contains, slice_index_or}
use Rattle.std.specs.List.{AllWithin}
use Rattle.bs_net.specs.declared.net.NetId.{NetId}
use Rattle.bs_net.specs.Circuit.{Circuit, state_nets}
use Rattle.bs_net.specs.Netlist.{circuit}
use Rattle.bs_net.specs.Order.{IsChecked}
use Rattle.bs_net_facts.specs.declared.fact.Fact.{Fact}
use Rattle.bs_net_facts.specs.declared.block.Block.{Block}
use Rattle.bs_net_facts.specs.Blocks.{IsBlock}
use Rattle.bs_net_facts.specs.Facts.{IsWayOf}
use Rattle.bs_net_facts.specs.Seen.{Seen}
use Rattle.bs_inspect_causes.specs.declared.units.Unit.{Unit as CodeUnit}
use Rattle.bs_inspect_causes.specs.declared.account.Account.{Account}
use Rattle.bs_inspect_causes.specs.declared.drivers.Drivers.{Drivers}
use Rattle.bs_inspect_causes.specs.Accounts.{Explain, IsAccount, IsDue, IsGiven, IsRealIn, IsTold, LeadsOn, has_net, last_bits}

-- ---- what drives a net

-- whether a table marks a net
abbrev pub marks_net : List Bool → NetId → Bool
marks_net table n = slice_index_or table n.0 false

-- it marks these nets and no others
pub record MarksThese (nets : List NetId) (table : List Bool) : Type 0 where
  pub each : (n : NetId) → marks_net table n ≡ has_net nets n

-- the tables are those of a circuit
pub record AreDrivers (c : Circuit) (d : Drivers) : Type 0 where
  pub checked : IsChecked c
  pub flops : d.flops ≡ state_nets c
  pub by_flop : MarksThese (state_nets c) d.by_flop
  pub by_input : MarksThese c.inputs d.by_input

-- and the trace is one of its executions
pub record IsReady (m : Seen) (d : Drivers) : Type 0 where
  pub drivers : AreDrivers (circuit m.net) d
  pub way : IsWayOf (circuit m.net) m.states m.inputs
  pub leads : LeadsOn (circuit m.net) m.states m.inputs

-- ---- facts

-- the first facts of a list, each at least once, and no others of it
pub record KeepsFirst (facts : List Fact) (count : ℕ) (kept : List Fact) : Type 0 where
  pub all : All (Contains kept) (take count facts)
  pub only : All (Contains facts) kept

-- the fact at a place is the same as the one before it
pub record Repeats (facts : List Fact) (place : ℕ) : Type 0 where
  pub behind : 0 < place
  pub same : (d : Fact) → slice_index_or facts (place - 1) d ≡ slice_index_or facts place d

-- Facts that one account tells: the trace's, at one cycle, all of flip-flops or none, and of no data inputs.
pub record IsUnit (m : Seen) (d : Drivers) (at : ℕ) (flop : Bool) (facts : List Fact) : Type 0 where
  pub some : 0 < length facts
  pub real : All (IsRealIn m) facts
  pub at_cycle : All (λ f. f.cycle ≡ at) facts
  pub driven : All (λ f. marks_net d.by_input f.net ≡ false) facts
  pub alike : All (λ f. marks_net d.by_flop f.net ≡ flop) facts

-- a fact of a cycle, of a flip-flop or not
pub record IsLike (d : Drivers) (at : ℕ) (flop : Bool) (f : Fact) : Type 0 where
  pub cycle_is : f.cycle ≡ at
  pub kind_is : marks_net d.by_flop f.net ≡ flop

-- facts from a place on that are alike
pub record IsUnitAt (d : Drivers) (facts : List Fact) (from : ℕ) (u : CodeUnit) : Type 0 where
  pub more : from < u.stop
  pub within : u.stop ≤ length facts
  pub alike : AllWithin (IsLike d u.at u.flop) facts from u.stop

-- a block of a unit's facts that ends at a cycle
pub record IsUnitBlock (m : Seen) (facts : List Fact) (at : ℕ) (b : Block) : Type 0 where
  pub is : IsBlock (circuit m.net) m.states m.inputs b
  pub of_bits : b.bits ≡ facts
  pub ends : b.at ≡ at

-- the account of a block in a layer
pub record IsAccountBy (m : Seen) (b : Block) (layer : ℕ) (a : Account) : Type 0 where
  pub is : IsAccount (circuit m.net) m.states m.inputs a
  pub of_block : a.block ≡ b
  pub of_layer : a.layer ≡ layer

-- an account of a unit's facts in a layer
pub record IsUnitAccount (m : Seen) (facts : List Fact) (layer : ℕ) (a : Account) : Type 0 where
  pub is : IsAccount (circuit m.net) m.states m.inputs a
  pub of_bits : last_bits a ≡ facts
  pub of_layer : a.layer ≡ layer

-- Whether the flip-flops and data inputs of a cycle force what is told at another: nets of the same cycle that no flip-flop drives, and of
-- the next cycle flip-flops, and at the last moment all nets that the state alone decides.
abbrev pub ForcesAt : Seen → ℕ → Bool → ℕ → Type 0
ForcesAt m at flop t =
    ((t ≡ at) × ((flop ≡ false) × (t < length m.inputs))) ⊎ ((t + 1 ≡ at) × ((flop ≡ true) ⊎ (at ≡ length m.inputs)))

-- ---- a layer

-- facts that may be told in a layer
pub record AreDue (m : Seen) (d : Drivers) (asked : List Fact) (layer : ℕ) (accounts : List Account) (facts : List Fact) : Type 0 where
  pub real : All (IsRealIn m) facts
  pub driven : All (λ f. marks_net d.by_input f.net ≡ false) facts
  pub due : All (IsDue asked accounts layer) facts
  pub whole : layer ≡ 0 → All (Contains facts) asked

-- more accounts, which tell facts in a layer, and in the first layer all of them
pub record Tells (m : Seen) (layer : ℕ) (facts : List Fact) (old new : List Account) : Type 0 where
  pub more : List Account
  pub are : new ≡ old ++ more
  pub each : All (IsAccount (circuit m.net) m.states m.inputs) more
  pub of_layer : All (λ a. a.layer ≡ layer) more
  pub only : All (λ a. All (Contains facts) (last_bits a)) more
  pub all : layer ≡ 0 → All (IsTold new 0) facts

-- more facts, which are given in an account and of no data inputs
pub record AsksMore (d : Drivers) (a : Account) (old new : List Fact) : Type 0 where
  pub more : List Fact
  pub are : new ≡ old ++ more
  pub given : All (Contains a.block.given) more
  pub driven : All (λ f. marks_net d.by_input f.net ≡ false) more

-- a fact that may be told in the layer behind a layer
pub record IsNext (m : Seen) (d : Drivers) (accounts : List Account) (layer : ℕ) (f : Fact) : Type 0 where
  pub real : IsRealIn m f
  pub driven : marks_net d.by_input f.net ≡ false
  pub given : IsGiven accounts layer f

-- accounts in so many layers, none at first
pub record ExplainSoFar (m : Seen) (asked : List Fact) (layers : ℕ) (accounts : List Account) : Type 0 where
  pub none : layers ≡ 0 → accounts ≡ []
  pub explain : 0 < layers → Explain (circuit m.net) m.states m.inputs asked layers accounts
