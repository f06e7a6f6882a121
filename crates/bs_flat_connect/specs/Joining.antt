-- The joined nets of connections, or the first that does not go with its port.
use Rattle.std.specs.Prelude.{◌≡◌, ℕ, not, ◌&&◌, ◌==◌, if◌then◌else◌, List, [], ◌∷◌, map, Option, Some, None, option_map, Result, Ok, Err}
use Rattle.std.specs.List.{flat_map}
use Rattle.bs_bits.specs.Reading.{Answers}
use Rattle.bs_verilog_syntax.specs.declared.tree.Term.{Term}
use Rattle.bs_flat_meaning.specs.Connecting as flat
use Rattle.bs_flat_meaning.specs.Reading.{first_of}
use Rattle.bs_flat_nets.specs.Blocks.{joins_of_run}
use Rattle.bs_flat_nets.specs.declared.blocks.JoinedNets.{JoinedNets}
use Rattle.bs_flat_connect.specs.Wiring.{IsWiringOf}
use Rattle.bs_flat_connect.specs.Ports.{port_in}
use Rattle.bs_flat_connect.specs.declared.ports.Port.{Port}
use Rattle.bs_flat_connect.specs.declared.terms.NetRange.{NetRange}
use Rattle.bs_flat_connect.specs.declared.wiring.Wiring.{Wiring}
use Rattle.bs_flat_connect.specs.Matching.{matched_of}
use Rattle.bs_flat_connect.specs.declared.matching.Matched.{Matched}
use Rattle.bs_flat_connect.specs.declared.fault.Fault.{Fault}
use Rattle.bs_flat_connect.specs.declared.fault.Fault.TheVariants.{At, NoMemory}

-- a value, unless there is a first place that does not go
abbrev pub unless : {A : Type 0} → Option ℕ → A → Result A Fault
unless (Some place) x = Err (At place)
unless None x = Ok x

-- what was made is this value, or this is the first place that does not go, unless memory ran out
abbrev pub Tells : {A B : Type 0} → (A → B) → Result A Fault → Option ℕ → B → Type 0
Tells view result fault value = Answers NoMemory view result (unless fault value)

-- the run of a port with the nets for which a term stands
abbrev pub run_of : Port → Term → NetRange → Result JoinedNets Fault
run_of p t s =
    if s.width == p.width && not (flat.is_constant_term t && p.is_output) then Ok (record { inner = p.first; outer = s.first; width = s.width })
    else Err (At (flat.term_place t))

abbrev pub run_for : Port → Term → Option NetRange → Result JoinedNets Fault
run_for p t (Some s) = run_of p t s
run_for p t None = Err (At (flat.term_place t))

abbrev pub runs_of : Option JoinedNets → List JoinedNets
runs_of (Some r) = r ∷ []
runs_of None = []

-- the names of a module's nets
abbrev pub whole_names : List (List ℕ) → flat.ReadModule → List (List ℕ)
whole_names table m = (flat.whole_parts table m).names

pub record JoinsTerm (table : List (List ℕ)) (w : Wiring) (p : Port) (t : Term) (result : Result JoinedNets Fault) : Type 0 where
  pub is : (m below : flat.ReadModule) (q : flat.Port) → IsWiringOf table m w → p ≡ port_in below q →
      Tells joins_of_run result (flat.term_fault table m below (Some q) (Some t))
      (flat.joins_from (whole_names table m) q.first (flat.keys_for table m (Some t)))

pub record JoinsPort (table : List (List ℕ)) (w : Wiring) (p : Option Port) (t : Term) (result : Result JoinedNets Fault) : Type 0 where
  pub is : (m below : flat.ReadModule) (q : Option flat.Port) → IsWiringOf table m w → p ≡ option_map (port_in below) q →
      Tells joins_of_run result (flat.term_fault table m below q (Some t)) (flat.joins_with (whole_names table m) q (flat.keys_for table m (Some t)))

pub record JoinsPlain (table : List (List ℕ)) (w : Wiring) (p : Option Port) (t : Option Term) (result : Result (Option JoinedNets) Fault) : Type 0 where
  pub is : (m below : flat.ReadModule) (q : Option flat.Port) → IsWiringOf table m w → p ≡ option_map (port_in below) q →
      Tells (λ o. flat_map joins_of_run (runs_of o)) result (flat.term_fault table m below q t)
      (flat.joins_with (whole_names table m) q (flat.keys_for table m t))

pub record JoinsOne (table : List (List ℕ)) (w : Wiring) (one : Matched) (result : Result (Option JoinedNets) Fault) : Type 0 where
  pub is : (m below : flat.ReadModule) (c : flat.Connected) → IsWiringOf table m w → one ≡ matched_of below c →
      Tells (λ o. flat_map joins_of_run (runs_of o)) result (flat.connected_fault table m below c) (flat.joins_of table m c)

pub record JoinsAll (table : List (List ℕ)) (w : Wiring) (all : List Matched) (result : Result (List JoinedNets) Fault) : Type 0 where
  pub is : (m below : flat.ReadModule) (cs : List flat.Connected) → IsWiringOf table m w → all ≡ map (matched_of below) cs →
      Tells (λ rs. flat_map joins_of_run rs) result (first_of (map (flat.connected_fault table m below) cs)) (flat_map (flat.joins_of table m) cs)
