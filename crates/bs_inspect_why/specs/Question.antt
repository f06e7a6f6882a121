-- What is asked of a trace (docs/FORMATS.md, "Causes").
use Rattle.std.specs.Prelude.{◌≡◌, ℕ, ◌-◌, ◌<◌, ◌==◌, ◌&&◌, ◌||◌, not, Bool, List, [], ◌∷◌, length, slice_index_or, Option, Some, None, if◌then◌else◌}
use Rattle.std.specs.List.{flat_map, list_any}
use Rattle.bs_net.specs.Circuit.{Circuit}
use Rattle.bs_net.specs.Netlist.{circuit_of, circuit}
use Rattle.bs_net.specs.Parts.{Parts}
use Rattle.bs_net.specs.declared.net.NetId.{NetId}
use Rattle.bs_net_facts.specs.declared.fact.Fact.{Fact}
use Rattle.bs_net_facts.specs.Facts.{IsReal}
use Rattle.bs_net_facts.specs.Seen.{Seen}
use Rattle.bs_inspect_view.specs.Signals.{Member, members_of}
use Rattle.bs_inspect_causes.specs.Accounts.{has_net}
use Rattle.bs_inspect_why.specs.declared.question.Question.{Question as CodeQuestion}

-- a name, a moment of the trace or the last one, how many layers, whether nets with a name of the RTL do not end a cone, whether all is
-- told, and whether as a table
pub record Question : Type 0 where
  pub name : List ℕ
  pub at : Option ℕ
  pub depth : ℕ
  pub flops : Bool
  pub all : Bool
  pub csv : Bool

abbrev pub question_in : CodeQuestion → Question
question_in q = record { name = q.name.now; at = q.at; depth = q.depth; flops = q.flops; all = q.all; csv = q.csv }

-- the moment, of so many
abbrev pub moment_in : ℕ → Option ℕ → ℕ
moment_in count None = count - 1
moment_in count (Some at) = at

abbrev pub net_id : ℕ → NetId
net_id n = record { 0 = n }

-- whether a flip-flop, a constant or a gate drives a net; a net that none of them drives is a data input, or shows 0 at every moment
abbrev pub is_driven : Circuit → NetId → Bool
is_driven c n =
    list_any (λ f. f.q.0 == n.0) c.flops || (list_any (λ k. k.net.0 == n.0) c.constants || list_any (λ g. g.out.0 == n.0) c.gates)

-- a net with the name, where something drives it and it is no data input
abbrev pub asked_net : Circuit → Member → List NetId
asked_net c m = if not (has_net c.inputs (net_id m.place)) && is_driven c (net_id m.place) then net_id m.place ∷ [] else []

-- the nets with a name that are driven and no data inputs
abbrev pub asked_nets : Parts → List ℕ → List NetId
asked_nets raw name = flat_map (asked_net (circuit_of raw)) (members_of (name ∷ []) raw.names)

-- the trace's fact of a net at a cycle
pub record IsAsked (m : Seen) (net : NetId) (at : ℕ) (f : Fact) : Type 0 where
  pub net_is : f.net ≡ net
  pub cycle_is : f.cycle ≡ at
  pub real : IsReal (circuit m.net) m.states m.inputs f

-- those of the first of some nets
pub record AreAsked (m : Seen) (nets : List NetId) (at count : ℕ) (facts : List Fact) : Type 0 where
  pub size : length facts ≡ count
  pub each : (i : ℕ) (n : NetId) (f : Fact) → i < count → IsAsked m (slice_index_or nets i n) at (slice_index_or facts i f)
