-- Notes on a netlist that its check refuses.
use Rattle.std.specs.Prelude.{◌≡◌, ◌⊎◌, ◌-◌, ◌==◌, ℕ, List, [], ◌++◌, codes, decimal, length, take, drop, nat_eq, nat_le, Bool, false, not}
use Rattle.std.specs.Prelude.{◌&&◌, ◌||◌, slice_get, Option, Some, None, if◌then◌else◌}
use Rattle.std.specs.List.{flat_map, starts_with}
use Rattle.std.specs.Option.{option_map, option_map_or}
use Rattle.bs_net.specs.declared.net.NetId.{NetId}
use Rattle.bs_net.specs.declared.net.Gate.{Gate}
use Rattle.bs_net.specs.Parts.{Parts}
use Rattle.bs_net.specs.declared.fault.Count.{Count}
use Rattle.bs_net.specs.declared.fault.Count.TheVariants.{Flops, Inputs, Terminals}
use Rattle.bs_net.specs.declared.fault.NetFault.{NetFault}
use Rattle.bs_net.specs.declared.fault.NetFault.TheVariants as net
use Rattle.bs_net_names.specs.Nearest.{net_key}
use Rattle.bs_net_names.specs.Quotes.{shown_line}
use Rattle.bs_note_files.specs.declared.check.TheConstants.{RING}
use Rattle.bs_note_files.specs.Notes.{saying, file_text, IsNoteOn}
use Rattle.bs_net_names.specs.Splits.{before, behind}
use Rattle.bs_verilog_scope.specs.Standing.{IsNamePlace}

-- ---- where a name stands in a text

-- the name that stands in the text for a key: a vector's without its index
abbrev pub base_of : List ℕ → List ℕ
base_of key =
    if starts_with nat_eq key (codes "[") then behind 93 key
    else (if starts_with nat_eq key (codes "\\") then key else before 91 key)

-- ---- a net

-- a sentence with the key of a net in its middle
abbrev pub keyed_text : List ℕ → List ℕ → List ℕ
keyed_text key last = codes "the net `" ++ (shown_line key ++ last)

-- a note on the first place of a text at which the name of a key stands
pub record IsKeyNote (path text key sentence label note : List ℕ) : Type 0 where
  pub at : ℕ
  pub place : IsNamePlace text (base_of key) at
  pub placed : IsNoteOn path text at (saying sentence label) note

abbrev pub IsNetNote : (path text key last label note : List ℕ) → Type 0
IsNetNote path text key last label note = IsKeyNote path text key (keyed_text key last) label note

-- ---- a ring of gates

-- the output net of a gate
abbrev pub output_of : Parts → ℕ → Option NetId
output_of r gate = option_map (λ (g : Gate). g.out) (slice_get r.gates gate)

-- the key of a gate's output net, behind a space
abbrev pub ring_piece : Parts → ℕ → List ℕ
ring_piece r gate = option_map_or (λ (out : NetId). codes " " ++ shown_line (net_key r out)) (output_of r gate) []

abbrev pub ring_text : Parts → List ℕ → List ℕ
ring_text r gates = codes "gates read one another in a ring, by their output nets:" ++ flat_map (ring_piece r) (take RING gates)

-- the key of the output net of the first gate
abbrev pub first_key : Parts → List ℕ → List ℕ
first_key r gates = option_map_or (λ (out : NetId). net_key r out) (output_of r (option_map_or (λ (gate : ℕ). gate) (slice_get gates 0) 0)) []

abbrev pub IsRingNote : Parts → (path text gates note : List ℕ) → Type 0
IsRingNote r path text gates note =
    IsKeyNote path text (first_key r gates) (ring_text r gates) (codes "a flip-flop must stand in every ring; latches are left out") note

-- ---- all of them

-- what a number of too many counts
abbrev pub count_sentence : Count → List ℕ
count_sentence Flops = codes "at most 4096 flip-flops are taken, and there are "
count_sentence Inputs = codes "at most 4096 input port bits are taken, and there are "
count_sentence Terminals = codes "a gate has at most 64 inputs, and one has "

abbrev pub IsCheckNote : Parts → List ℕ → List ℕ → NetFault → List ℕ → Type 0
IsCheckNote r path text (net.TooMany count number) note = note ≡ file_text path (count_sentence count ++ decimal number)
IsCheckNote r path text (net.SecondDriver n) note =
    IsNetNote path text (net_key r n) (codes "` has two drivers") (codes "one input, gate output or flip-flop may drive a net") note
IsCheckNote r path text (net.Undriven n) note =
    IsNetNote path text (net_key r n) (codes "` is read and has no driver") (codes "is the name misspelt, or a gate missing?") note
IsCheckNote r path text (net.Loop gates) note = IsRingNote r path text gates note
IsCheckNote r path text net.NoFlop note =
    note ≡ file_text path (codes "there is no flip-flop: cells are dff, dffs, dffe and dffr (docs/FORMATS.md, Netlists)")
IsCheckNote r path text (net.ClockMixed n) note =
    IsNetNote path text (net_key r n) (codes "` is no single clock")
    (codes "all flip-flops take one input port bit as their clock, and no gate and no d, e or r reads it: make a gated clock an enable (dffe), negedge posedge, and keep one clock's part") note
IsCheckNote r path text net.NoMemory note = note ≡ file_text path (codes "memory ran out")
