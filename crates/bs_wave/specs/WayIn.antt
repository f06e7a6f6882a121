-- The trace that a wave shows: its states and the inputs between them.
use Rattle.std.specs.Prelude.{ℕ, ◌-◌, ◌==◌, Bool, true, false, List, [], ◌∷◌, map, length, take, Option, Some, None, if◌then◌else◌}
use Rattle.std.specs.Cmp.Lexicographic.{pointwise}
use Rattle.std.specs.Str.{bytes_eq}
use Rattle.bs_net.specs.declared.net.NetId.{NetId}
use Rattle.bs_net.specs.Circuit.{state_nets}
use Rattle.bs_net.specs.Netlist.{circuit_of}
use Rattle.bs_net.specs.Parts.{Parts}
use Rattle.bs_wave.specs.declared.value.Value.{Value}
use Rattle.bs_wave.specs.declared.value.Value.TheVariants.{Zero, One, Unknown}
use Rattle.bs_wave.specs.declared.wave.Wave.{Wave}
use Rattle.bs_wave.specs.declared.wave.Trace.{Trace}
use Rattle.bs_wave.specs.Wave.{value_at}

-- the bit of a value, if it is known
abbrev pub bit_in : Value → Option Bool
bit_in Zero = Some false
bit_in One = Some true
bit_in Unknown = None

-- a value before others, where all are there
abbrev pub before : {A : Type 0} → Option A → Option (List A) → Option (List A)
before (Some a) (Some rest) = Some (a ∷ rest)
before None rest = None
before (Some a) None = None

-- the values, where all are there
abbrev pub all_of : {A : Type 0} → List (Option A) → Option (List A)
all_of [] = Some []
all_of (a ∷ rest) = before a (all_of rest)

-- the bits of some nets at a moment, where all are known
abbrev pub bits_on : List NetId → List Value → Option (List Bool)
bits_on nets values = all_of (map (λ n. bit_in (value_at values n.0)) nets)

-- the bits of some nets at each moment
abbrev pub bits_over : List NetId → List (List Value) → Option (List (List Bool))
bits_over nets moments = all_of (map (bits_on nets) moments)

abbrev pub same_keys : List (List ℕ) → List (List ℕ) → Bool
same_keys = pointwise bytes_eq

abbrev pub both : Option (List (List Bool)) → Option (List (List Bool)) → Option Trace
both (Some states) (Some inputs) = Some (record { states = states; inputs = inputs })
both (Some states) None = None
both None inputs = None

-- The states are what the flip-flops' outputs show at each moment, and the inputs what the data inputs show at each but the last.
-- There is no trace where the keys are not the netlist's in net order, there is no moment, or one of these values is unknown.
abbrev pub trace_in : Parts → Wave → Option Trace
trace_in raw wave =
    if same_keys wave.keys raw.names
    then (if length wave.moments == 0
    then None
    else both (bits_over (state_nets (circuit_of raw)) wave.moments) (bits_over (circuit_of raw).inputs (take (length wave.moments - 1) wave.moments)))
    else None
