-- The netlist, the state and the size of a search, one after the other (docs/FORMATS.md, "Refusal lines").
use Rattle.std.specs.Prelude.{ℕ, ◌*◌, ◌==◌, nat_le, Bool, true, List, [], length, codes, Option, Some, None, Result, Ok, Err, if◌then◌else◌}
use Rattle.bs_scan.specs.declared.seen.Seen.{Seen}
use Rattle.bs_scan.specs.SeenText.{seen_of}
use Rattle.bs_net.specs.Netlist.{circuit_of}
use Rattle.bs_net.specs.Parts.{Parts}
use Rattle.bs_outside.specs.declared.file.File.TheVariants as files
use Rattle.bs_outside.specs.Plan.{Reason, any_of, Plan, end, ◌>>=◌, read_as}
use Rattle.bs_encode.specs.Transition.{variables}
use Rattle.bs_reach_unrolled.specs.declared.limits.TheConstants.{MAX_FRAME_VARIABLES}
use Rattle.bs_top_files.specs.Entry.{netlist_of}
use Rattle.bs_top_files.specs.Causes.{Case, stated}
use Rattle.bs_note_calls.specs.Searches.{room_text, state_text}

-- a netlist's parts, what is known of a state of it, and the most cycles in which the state is to be reached
pub record Target : Type 0 where
  pub raw : Parts
  pub state : Seen
  pub cycles : ℕ

-- bits that are a state, known or not: one for each flip-flop; others are refused for this reason
abbrev pub fitting : Parts → Reason Case → Option Seen → Result Seen (Reason Case)
fitting raw reason None = Err reason
fitting raw reason (Some seen) = if length seen.bits == length (circuit_of raw).flops then Ok seen else Err reason

-- why a word is no state
abbrev pub state_reason : Parts → List ℕ → Reason Case
state_reason raw word = any_of (stated (codes "Width") (state_text word (length (circuit_of raw).flops)))

-- the state of a word
abbrev pub state_in : Parts → List ℕ → Result Seen (Reason Case)
state_in raw word = fitting raw (state_reason raw word) (seen_of word)

-- whether a time frame for each cycle has few enough variables
abbrev pub has_room : Parts → ℕ → Bool
has_room raw cycles = nat_le (cycles * variables (circuit_of raw) []) MAX_FRAME_VARIABLES

-- why a search is too large
abbrev pub room_reason : Parts → Reason Case
room_reason raw = any_of (stated (codes "TooLarge") (room_text (variables (circuit_of raw) [])))

abbrev pub room_in : Parts → ℕ → Result Bool (Reason Case)
room_in raw cycles = if has_room raw cycles then Ok true else Err (room_reason raw)

-- the netlist, then whether the word is a state of it, then whether the search is not too large
abbrev pub target_of : (netlist state : List ℕ) → (cycles : ℕ) → Plan Case Target
target_of netlist state cycles = do
  raw ← netlist_of netlist
  seen ← read_as files.State (state_in raw state)
  fits ← read_as files.Netlist (room_in raw cycles)
  end record { raw = raw; state = seen; cycles = cycles }

-- ---- what is left of the walk once its first parts are read

-- behind the netlist
abbrev pub stated_step : Parts → List ℕ → (cycles : ℕ) → Plan Case Target
stated_step raw state cycles = do
  seen ← read_as files.State (state_in raw state)
  fits ← read_as files.Netlist (room_in raw cycles)
  end record { raw = raw; state = seen; cycles = cycles }

-- behind the state
abbrev pub sized_step : Parts → Seen → (cycles : ℕ) → Plan Case Target
sized_step raw state cycles = do
  fits ← read_as files.Netlist (room_in raw cycles)
  end record { raw = raw; state = state; cycles = cycles }
