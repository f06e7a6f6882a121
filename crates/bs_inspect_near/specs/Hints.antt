-- What hints there are where no run is in the state of which something is seen: states that are like it, and which runs are in.
use Rattle.std.specs.Prelude.{◌≡◌, ℕ, ◌<◌, ◌-◌, Bool, true, false, not, List, [], ◌∷◌, ◌++◌, length, map, take, drop, slice_index_or, count_by, Option, Some, None}
use Rattle.std.specs.Prelude.{if◌then◌else◌}
use Rattle.std.specs.List.{range_with_len}
use Rattle.bs_net.specs.Circuit.{Circuit, bit_at, reset_state}
use Rattle.bs_scan.specs.declared.seen.Seen.{Seen}
use Rattle.bs_scan.specs.Seen.{kept, whole}
use Rattle.bs_scan.specs.Moments.{IsMoment, Moment, Run, state_of}
use Rattle.bs_inspect_near.specs.Distance.{distance, is_free}
use Rattle.bs_inspect_near.specs.Nearest.{IsNearest, no_state}
use Rattle.bs_inspect_near.specs.declared.search.Near.{Near}
use Rattle.bs_inspect_near.specs.declared.hints.Hints.{Hints}

-- ---- bits in a row, inverted and shifted

-- each bit is the other one
abbrev pub inverted : List Bool → List Bool
inverted bits = map not bits

-- each bit stands a place further on, and this one is the first
abbrev pub shifted_on : Bool → List Bool → List Bool
shifted_on bit bits = bit ∷ take (length bits - 1) bits

-- each bit stands a place before, and this one is the last
abbrev pub shifted_back : Bool → List Bool → List Bool
shifted_back bit bits = drop 1 bits ++ bit ∷ []

-- ---- the same of the known bits: the others are not scanned, so they stand where they are

-- the known bits, in their order
abbrev pub known_bits : Seen → List Bool
known_bits seen = kept seen.free seen.bits

-- how many of the places before one are known
abbrev pub known_before : List Bool → ℕ → ℕ
known_before free place = count_by (λ p. not (slice_index_or free p false)) (range_with_len 0 place)

-- the bit at a place, where these bits stand one after another at the known places
abbrev pub bit_with : Seen → List Bool → ℕ → Bool
bit_with seen known place = if is_free seen place then bit_at seen.bits place else bit_at known (known_before seen.free place)

-- what is seen, with these bits at the known places
unfoldable pub with_known : Seen → List Bool → Seen
with_known seen known = record { bits = map (bit_with seen known) (range_with_len 0 (length seen.bits)); free = seen.free }

-- with the known bits inverted
abbrev pub inverse : Seen → Seen
inverse seen = with_known seen (inverted (known_bits seen))

-- with the known bits, which are these, shifted by one known place
abbrev pub shifts_by : List Bool → Seen → List Seen
shifts_by known seen =
    with_known seen (shifted_back false known) ∷ with_known seen (shifted_back true known) ∷ with_known seen (shifted_on false known)
    ∷ with_known seen (shifted_on true known) ∷ []

abbrev pub shifts : Seen → List Seen
shifts seen = shifts_by (known_bits seen) seen

-- what is asked of runs at once: what is seen, with these known bits, what is like it, and the reset state inverted, from which a state
-- differs in all bits just where it is the reset state
abbrev pub asked_by : (reset known : List Bool) → Seen → List Seen
asked_by reset known seen =
    seen ∷ with_known seen (inverted known) ∷ with_known seen (shifted_back false known) ∷ with_known seen (shifted_back true known)
    ∷ with_known seen (shifted_on false known) ∷ with_known seen (shifted_on true known) ∷ whole (inverted reset) ∷ []

abbrev pub asked : (reset : List Bool) → Seen → List Seen
asked reset seen = asked_by reset (known_bits seen) seen

-- ---- which of them runs are in

-- no run is ever in such a state
pub record IsUnrecorded (c : Circuit) (runs : List Run) (seen : Seen) : Type 0 where
  pub is : (m : Moment) → IsMoment runs m → 0 < distance (state_of c runs m) seen

-- a run is in such a state: the lowest run that is, and there the earliest moment
pub record IsRecorded (c : Circuit) (runs : List Run) (seen : Seen) (near : Near) : Type 0 where
  pub nearest : IsNearest c runs seen near
  pub same : near.count ≡ 0

-- the first of some states that a run is in, with a moment; or that there is none
pub record IsFirstRecorded (c : Circuit) (runs : List Run) (states : List Seen) (near : Near) : Type 0 where
  pub place : ℕ
  pub there : place < length states
  pub recorded : IsRecorded c runs (slice_index_or states place no_state) near
  pub before : (i : ℕ) → i < place → IsUnrecorded c runs (slice_index_or states i no_state)

pub record AreUnrecorded (c : Circuit) (runs : List Run) (states : List Seen) : Type 0 where
  pub each : (i : ℕ) → i < length states → IsUnrecorded c runs (slice_index_or states i no_state)

abbrev pub FoundIs : Circuit → List Run → List Seen → Option Near → Type 0
FoundIs c runs states None = AreUnrecorded c runs states
FoundIs c runs states (Some near) = IsFirstRecorded c runs states near

pub record Finds (c : Circuit) (runs : List Run) (states : List Seen) (found : Option Near) : Type 0 where
  pub is : FoundIs c runs states found

-- all runs are at each moment in the reset state
pub record AreHeld (c : Circuit) (runs : List Run) : Type 0 where
  pub each : (m : Moment) → IsMoment runs m → distance (state_of c runs m) (whole (reset_state c)) ≡ 0

-- whether they are
pub record TellsHeld (c : Circuit) (runs : List Run) (held : Bool) : Type 0 where
  pub yes : held ≡ true → AreHeld c runs
  pub no : held ≡ false → AreHeld c runs → ⊥

-- what is seen of a state hints at this
pub record AreHints (c : Circuit) (runs : List Run) (seen : Seen) (hints : Hints) : Type 0 where
  pub held : TellsHeld c runs hints.held
  pub inverted : Finds c runs (inverse seen ∷ []) hints.inverted
  pub shifted : Finds c runs (shifts seen) hints.shifted
