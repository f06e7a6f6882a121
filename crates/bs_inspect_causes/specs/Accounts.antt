-- Accounts: what set the bits that are asked, what has kept them, and the same of these facts (docs/DEFINITIONS.md, "Account").
use Rattle.std.specs.Prelude.{◌≡◌, ℕ, ◌+◌, ◌<◌, ◌||◌, ◌==◌, Bool, not, nat_lt, List, [], length, map, filter, All, Contains, slice_index_or}
use Rattle.std.specs.List.{list_any}
use Rattle.bs_net.specs.declared.net.NetId.{NetId}
use Rattle.bs_net.specs.Circuit.{Circuit, next}
use Rattle.bs_net.specs.Netlist.{circuit}
use Rattle.bs_net_facts.specs.declared.fact.Fact.{Fact}
use Rattle.bs_net_facts.specs.declared.block.Block.{Block}
use Rattle.bs_net_facts.specs.Facts.{IsReal}
use Rattle.bs_net_facts.specs.Blocks.{IsBlock, moved}
use Rattle.bs_net_facts.specs.Seen.{Seen}
use Rattle.bs_inspect_causes.specs.declared.account.Account.{Account}

-- ---- facts of a trace

-- a fact is the trace's
abbrev pub IsRealIn : Seen → Fact → Type 0
IsRealIn m f = IsReal (circuit m.net) m.states m.inputs f

-- the trace's facts of some nets at a cycle
pub record AreFactsOf (m : Seen) (nets : List NetId) (t : ℕ) (facts : List Fact) : Type 0 where
  pub nets_are : map (λ f. f.net) facts ≡ nets
  pub at_cycle : All (λ f. f.cycle ≡ t) facts
  pub real : All (IsRealIn m) facts

-- ---- what is asked

-- a state of a trace leads to the one behind it, under its input
abbrev pub LeadsAt : Circuit → List (List Bool) → List (List Bool) → ℕ → Type 0
LeadsAt c states inputs t = slice_index_or states (t + 1) [] ≡ next c (slice_index_or states t []) (slice_index_or inputs t [])

-- each of the first states does
pub record LeadsBefore (c : Circuit) (states inputs : List (List Bool)) (count : ℕ) : Type 0 where
  pub each : (t : ℕ) → t < count → LeadsAt c states inputs t

-- each state but the last one does
abbrev pub LeadsOn : Circuit → List (List Bool) → List (List Bool) → Type 0
LeadsOn c states inputs = LeadsBefore c states inputs (length inputs)

-- whether one of some nets is this one
abbrev pub has_net : List NetId → NetId → Bool
has_net nets n = list_any (λ m. m.0 == n.0) nets

-- ---- an account

-- whether a given fact sets a block's bits, and does not keep them: it is before their first cycle, or they stand in one cycle alone
abbrev pub is_cause : Block → Fact → Bool
is_cause b f = nat_lt f.cycle b.since || b.since == b.at

-- its causes and holds are the given facts of a block, and its idle facts are the trace's
pub record IsAccount (c : Circuit) (states inputs : List (List Bool)) (a : Account) : Type 0 where
  pub block : IsBlock c states inputs a.block
  pub causes : a.causes ≡ filter (is_cause a.block) a.block.given
  pub holds : a.holds ≡ filter (λ f. not (is_cause a.block f)) a.block.given
  pub idle : All (IsReal c states inputs) a.idle

-- ---- layers of accounts

-- the bits of an account at its last cycle
abbrev pub last_bits : Account → List Fact
last_bits a = map (moved a.block.at) a.block.bits

-- an account of a layer tells a fact at its last cycle
pub record IsTold (accounts : List Account) (layer : ℕ) (f : Fact) : Type 0 where
  pub account : Account
  pub among : Contains accounts account
  pub of_layer : account.layer ≡ layer
  pub told : Contains (last_bits account) f

-- a fact is given in an account of a layer
pub record IsGiven (accounts : List Account) (layer : ℕ) (f : Fact) : Type 0 where
  pub account : Account
  pub among : Contains accounts account
  pub of_layer : account.layer ≡ layer
  pub given : Contains account.block.given f

-- the first layer tells of asked facts, and a later one of facts that are given in the layer before it
pub record IsDue (asked : List Fact) (accounts : List Account) (layer : ℕ) (f : Fact) : Type 0 where
  pub first : layer ≡ 0 → Contains asked f
  pub later : (before : ℕ) → layer ≡ before + 1 → IsGiven accounts before f

-- Accounts of some facts of a trace, in fewer layers than `depth`: each fact is told at the end of a block of the first layer, and the
-- bits at the end of each other block are facts that are given in the layer before it.
pub record Explain (c : Circuit) (states inputs : List (List Bool)) (asked : List Fact) (depth : ℕ) (accounts : List Account) : Type 0 where
  pub each : All (IsAccount c states inputs) accounts
  pub shallow : All (λ a. a.layer < depth) accounts
  pub due : All (λ a. All (IsDue asked accounts a.layer) (last_bits a)) accounts
  pub answered : All (IsTold accounts 0) asked
