-- The text of recorded runs beside their VCDs (docs/FORMATS.md, "Texts of `backspace_inspect`").
use Rattle.std.specs.Prelude.{◌≡◌, ℕ, ◌+◌, ◌-◌, ◌==◌, ◌&&◌, nat_lt, Bool, true, false, not, List, [], ◌∷◌, ◌++◌, length, map, filter, take, count_by, codes, decimal, slice_index_or, Option, Some, None, if◌then◌else◌}
use Rattle.std.specs.List.{flat_map, list_all, list_any, range_with_len}
use Rattle.bs_bits.specs.Lines.{line}
use Rattle.bs_bits.specs.Text.{digit_of}
use Rattle.bs_net.specs.Parts.{Parts}
use Rattle.bs_inspect_view.specs.Rtl.{rtl_text}
use Rattle.bs_inspect_view.specs.Signals.{AreSignals, Signal}
use Rattle.bs_inspect_view.specs.Values.{value_text}
use Rattle.bs_inspect_report.specs.Keys.{flop_keys, input_keys}
use Rattle.bs_inspect_report.specs.Signal.{bit_at, signal_bits}
use Rattle.bs_inspect_check.specs.declared.comparison.Comparison.{Comparison}
use Rattle.bs_inspect_check.specs.declared.comparison.RunOrigin.{RunOrigin}
use Rattle.bs_inspect_check.specs.declared.inputs.InputComparison.{InputComparison}
use Rattle.bs_inspect_check.specs.declared.level.FlopLevel.{FlopLevel}
use Rattle.bs_inspect_check.specs.declared.level.FlopLevel.TheVariants.{Missing, Unknown, Known as Level}
use Rattle.bs_inspect_check.specs.declared.lines.TheConstants.{MAX_LINES}
use Rattle.bs_inspect_check.specs.declared.tally.CycleEnd.{CycleEnd}
use Rattle.bs_inspect_check.specs.Flops.{differs_at}
use Rattle.bs_inspect_check.specs.Inputs.{no_inputs}

-- ---- what a VCD has of a signal

abbrev pub level_at : List FlopLevel → ℕ → FlopLevel
level_at levels place = slice_index_or levels place Missing

abbrev pub is_known : FlopLevel → Bool
is_known Missing = false
is_known Unknown = false
is_known (Level bit) = true

abbrev pub known_bit : FlopLevel → Bool
known_bit Missing = false
known_bit Unknown = false
known_bit (Level bit) = bit

-- `-` for a flip-flop that the VCD does not have, and `x` for an unknown bit
abbrev pub level_char : FlopLevel → ℕ
level_char Missing = 45
level_char Unknown = 120
level_char (Level bit) = digit_of bit

abbrev pub all_known : List FlopLevel → List ℕ → Bool
all_known levels places = list_all (λ p. is_known (level_at levels p)) places

abbrev pub known_bits : List FlopLevel → List ℕ → List Bool
known_bits levels places = map (λ p. known_bit (level_at levels p)) places

abbrev pub level_chars : List FlopLevel → List ℕ → List ℕ
level_chars levels places = map (λ p. level_char (level_at levels p)) places

-- the value of a signal, or its bits one by one where one is not known: `0b01x0`
abbrev pub levels_text : List FlopLevel → List ℕ → List ℕ
levels_text levels places =
    if all_known levels places then value_text (known_bits levels places) else codes "0b" ++ level_chars levels places

-- ---- the first of some signals

-- what is cut off is counted
abbrev pub more_text : ℕ → List ℕ
more_text count = if nat_lt MAX_LINES count then line (codes "and " ++ (decimal (count - MAX_LINES) ++ codes " more")) else []

-- a line for each of the first signals
abbrev pub first_lines : (Signal → List ℕ) → List Signal → List ℕ
first_lines line_of signals = flat_map line_of (take MAX_LINES signals) ++ more_text (length signals)

-- ---- what differs

-- some bit of a signal differs
abbrev pub signal_differs : CycleEnd → Signal → Bool
signal_differs e s = list_any (differs_at e.state e.levels) s.places

-- the name of a signal, and its value in the run and in the VCD
abbrev pub difference_line : CycleEnd → Signal → List ℕ
difference_line e s =
    line (rtl_text s ++ (codes " run " ++ (value_text (signal_bits e.state s.places) ++ (codes " vcd " ++ levels_text e.levels s.places))))

abbrev pub difference_text : List Signal → CycleEnd → List ℕ
difference_text signals e = first_lines (difference_line e) (filter (signal_differs e) signals)

-- ---- a run

-- all cycles that were compared, or the first one that differs
abbrev pub outcome_text : (agreed : ℕ) → List CycleEnd → List ℕ
outcome_text agreed [] = codes " agree 0.." ++ decimal (agreed - 1)
outcome_text agreed (e ∷ more) = codes " differ " ++ decimal e.cycle

abbrev pub is_set : Bool → Bool
is_set bit = bit

-- the name of the run, and the file of the VCD
abbrev pub origin_text : RunOrigin → List ℕ
origin_text o = codes " name " ++ (o.run ++ (codes " vcd " ++ o.file))

-- how many flip-flops the VCD has, how many of their bits are unknown in the cycles that agree, and the names of both
abbrev pub counts_text : Comparison → List ℕ
counts_text m =
    codes " flops " ++ (decimal (count_by is_set m.flops.found) ++ (codes " unknown " ++ (decimal m.flops.unknown ++ origin_text m.origin)))

-- how it ended, and the counts
abbrev pub outcome_line : ℕ → Comparison → List ℕ
outcome_line number m = line (codes "run " ++ (decimal number ++ (outcome_text m.flops.agreed m.flops.differing ++ counts_text m)))

-- how many cycles the run has, and how many rising edges the VCD, where these differ
abbrev pub size_text : ℕ → Comparison → List ℕ
size_text number m =
    if m.flops.cycles == m.flops.edges then []
    else line (codes "run " ++ (decimal number ++ (codes " cycles " ++ (decimal m.flops.cycles ++ (codes " edges " ++ decimal m.flops.edges)))))

-- the time at which the values begin, where that is not 0
abbrev pub begin_text : ℕ → Comparison → List ℕ
begin_text number m = if m.flops.begin == 0 then [] else line (codes "run " ++ (decimal number ++ (codes " begin " ++ decimal m.flops.begin)))

-- the flip-flops that differ
abbrev pub flops_text : List Signal → ℕ → Comparison → List ℕ
flops_text flops number m =
    outcome_line number m ++ (size_text number m ++ (begin_text number m ++ flat_map (difference_text flops) m.flops.differing))

-- ---- the data inputs of a run

-- words and a number of a run
abbrev pub word_line : ℕ → List ℕ → ℕ → List ℕ
word_line number words count = line (codes "run " ++ (decimal number ++ (words ++ decimal count)))

-- the first run whose data inputs are just those of the VCD, where there is one
abbrev pub like_text : ℕ → Option ℕ → List ℕ
like_text number None = []
like_text number (Some i) = word_line number (codes " inputs of run ") (i + 1)

-- the first cycle in which data inputs differ, and these
abbrev pub other_text : List Signal → ℕ → Option ℕ → List CycleEnd → List ℕ
other_text inputs number like [] = []
other_text inputs number like (e ∷ more) =
    word_line number (codes " inputs differ ") e.cycle ++ (difference_text inputs e ++ like_text number like)

abbrev pub unread_line : ℕ → List ℕ
unread_line number = line (codes "run " ++ (decimal number ++ codes " inputs unknown"))

abbrev pub inputs_text : List Signal → ℕ → InputComparison → List ℕ
inputs_text inputs number m = if m.known then other_text inputs number m.like m.differing else unread_line number

abbrev pub run_text : (flops inputs : List Signal) → ℕ → Comparison → List ℕ
run_text flops inputs number m = flops_text flops number m ++ inputs_text inputs number m.inputs

abbrev pub no_comparison : Comparison
no_comparison = record {
  origin = record { run = []; file = [] };
  flops = record { cycles = 0; edges = 0; begin = 0; agreed = 0; unknown = 0; differing = []; found = [] };
  inputs = no_inputs;
}

abbrev pub run_at : (flops inputs : List Signal) → List Comparison → ℕ → List ℕ
run_at flops inputs comparisons i = run_text flops inputs (i + 1) (slice_index_or comparisons i no_comparison)

-- ---- what is missing

-- some VCD does not have a flip-flop
abbrev pub is_missing : List Comparison → ℕ → Bool
is_missing comparisons place = list_any (λ m. not (bit_at m.flops.found place)) comparisons

-- some VCD does not have a bit of a signal
abbrev pub signal_missing : List Comparison → Signal → Bool
signal_missing comparisons s = list_any (is_missing comparisons) s.places

abbrev pub missing_line : Signal → List ℕ
missing_line s = line (codes "missing " ++ rtl_text s)

abbrev pub missing_text : List Signal → List Comparison → List ℕ
missing_text signals comparisons = first_lines missing_line (filter (signal_missing comparisons) signals)

-- ---- the whole text

-- each run, and then what is missing
abbrev pub check_text : (flops inputs : List Signal) → List Comparison → List ℕ
check_text flops inputs comparisons =
    flat_map (run_at flops inputs comparisons) (range_with_len 0 (length comparisons)) ++ missing_text flops comparisons

-- the text tells of these comparisons, by the signals of a netlist's flip-flops and data inputs
pub record TellsCheck (raw : Parts) (comparisons : List Comparison) (text : List ℕ) : Type 0 where
  pub flops : List Signal
  pub inputs : List Signal
  pub stored : AreSignals [] (flop_keys raw) flops
  pub given : AreSignals [] (input_keys raw) inputs
  pub says : text ≡ check_text flops inputs comparisons

-- ---- what inner functions promise each other

-- the line of a signal that is told, where not too many are told before it
abbrev pub told_piece : (Signal → List ℕ) → Bool → ℕ → Signal → List ℕ
told_piece line_of is told s = if is && nat_lt told MAX_LINES then line_of s else []
