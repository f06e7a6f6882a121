-- The values that one run alone has (docs/FORMATS.md, "Texts of `backspace_inspect`").
use Rattle.std.specs.Prelude.{◌≡◌, ℕ, ◌<◌, ◌≤◌, ◌==◌, List, [], ◌++◌, length, take, codes, decimal, if◌then◌else◌}
use Rattle.std.specs.List.{flat_map}
use Rattle.std.specs.List.Sorted.{IsPermutation, IsSorted}
use Rattle.bs_bits.specs.Lines.{line}
use Rattle.bs_net.specs.Circuit.{Circuit}
use Rattle.bs_net.specs.Parts.{Parts}
use Rattle.bs_net.specs.Netlist.{circuit_of}
use Rattle.bs_inspect_view.specs.Rtl.{rtl_text}
use Rattle.bs_inspect_view.specs.Signals.{AreSignals, Signal}
use Rattle.bs_inspect_view.specs.Values.{value_text}
use Rattle.bs_stim.specs.Runs.{Stimulus, inputs_of}
use Rattle.bs_scan.specs.Moments.{Run}
use Rattle.bs_inspect_report.specs.Keys.{flop_keys}
use Rattle.bs_inspect_near.specs.Novelties.{AreNovelties, novelty_cmp, signal_at}
use Rattle.bs_inspect_near.specs.Values.{value_at}
use Rattle.bs_inspect_near.specs.declared.novelty.Novelty.{Novelty}

-- ---- the text

-- the cycle, the name of the signal, its value, and how many values others have
abbrev pub novelty_line : Circuit → List Run → ℕ → List Signal → Novelty → List ℕ
novelty_line c runs number signals f =
    line (decimal f.cycle ++ (codes " " ++ (rtl_text (signal_at signals f.place) ++ (codes " = " ++
    (value_text (value_at c runs (signal_at signals f.place).places number f.cycle) ++ (codes ", others " ++ decimal f.count))))))

abbrev pub nothing_text : List ℕ
nothing_text = line (codes "nothing new")

abbrev pub alone_text : List ℕ
alone_text = line (codes "no other run")

abbrev pub novelties_text : Circuit → List Run → ℕ → List Signal → List Novelty → List ℕ
novelties_text c runs number signals novelties =
    if length novelties == 0 then nothing_text else flat_map (novelty_line c runs number signals) novelties

-- the first novelties of these signals, in order of cycles and then of names
pub record TellsOf (c : Circuit) (runs : List Run) (number most : ℕ) (signals : List Signal) (text : List ℕ) : Type 0 where
  pub novelties : List Novelty
  pub found : AreNovelties c runs number signals (length signals) novelties
  pub ordered : List Novelty
  pub same : IsPermutation novelties ordered
  pub in_order : IsSorted novelty_cmp ordered
  pub says : text ≡ novelties_text c runs number signals (take most ordered)

-- the same of the signals of a netlist's flip-flops
pub record TellsSignals (raw : Parts) (runs : List Run) (number most : ℕ) (text : List ℕ) : Type 0 where
  pub signals : List Signal
  pub are : AreSignals [] (flop_keys raw) signals
  pub tells : TellsOf (circuit_of raw) runs number most signals text

-- The text tells each signal of the netlist's flip-flops that in this run has a value which no other run ever has, where the others have
-- `MAX_VALUES` values of it at most: the first cycle of such a value. Where there is no other run, it says so.
pub record TellsNovel (raw : Parts) (stimulus : Stimulus) (number most : ℕ) (text : List ℕ) : Type 0 where
  pub alone : length stimulus.runs ≤ 1 → text ≡ alone_text
  pub several : 1 < length stimulus.runs → TellsSignals raw (inputs_of stimulus) number most text
