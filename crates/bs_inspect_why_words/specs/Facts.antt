-- Facts of a trace under the names of their nets (docs/FORMATS.md, "Causes").
use Rattle.std.specs.Prelude.{◌≡◌, ℕ, ◌-◌, ◌==◌, Bool, List, [], ◌∷◌, ◌++◌, length, map, take, codes, decimal, slice_index_or, None, if◌then◌else◌}
use Rattle.std.specs.List.{flat_map}
use Rattle.bs_net.specs.Parts.{Parts, key_at}
use Rattle.bs_net_facts.specs.declared.fact.Fact.{Fact}
use Rattle.bs_inspect_view.specs.Rtl.{rtl_text}
use Rattle.bs_inspect_view.specs.Signals.{AreSignals, Signal}
use Rattle.bs_inspect_view.specs.Values.{value_text}
use Rattle.bs_inspect_report.specs.Signal.{signal_bits}

-- the keys of the nets
abbrev pub fact_keys : Parts → List Fact → List (List ℕ)
fact_keys raw facts = map (λ f. key_at raw f.net.0) facts

abbrev pub fact_bits : List Fact → List Bool
fact_bits facts = map (λ f. f.bit) facts

-- a signal of no bit
abbrev pub no_signal : Signal
no_signal = record { base = []; high = None; places = [] }

abbrev pub signal_at : List Signal → ℕ → Signal
signal_at signals i = slice_index_or signals i no_signal

-- ---- words

-- a signal and its value
abbrev pub signal_words : List Bool → Signal → List ℕ
signal_words bits s = rtl_text s ++ (codes " = " ++ value_text (signal_bits bits s.places))

-- the same behind another
abbrev pub behind_words : List Bool → Signal → List ℕ
behind_words bits s = codes ", " ++ signal_words bits s

-- signals, one behind another
abbrev pub signals_words : List Bool → List Signal → List ℕ
signals_words bits [] = []
signals_words bits (s ∷ ss) = signal_words bits s ++ flat_map (behind_words bits) ss

-- how many more there are
abbrev pub more_words : ℕ → List ℕ
more_words count = if count == 0 then [] else codes " and " ++ (decimal count ++ codes " more")

-- The words tell these facts: the bits of one vector that stand behind one another are one number.
pub record TellsFacts (raw : Parts) (facts : List Fact) (words : List ℕ) : Type 0 where
  pub signals : List Signal
  pub are : AreSignals [] (fact_keys raw facts) signals
  pub says : words ≡ signals_words (fact_bits facts) signals

-- the first of these facts, and how many more there are
pub record TellsFirst (raw : Parts) (most : ℕ) (facts : List Fact) (words : List ℕ) : Type 0 where
  pub front : List ℕ
  pub tells : TellsFacts raw (take most facts) front
  pub says : words ≡ front ++ more_words (length facts - most)
