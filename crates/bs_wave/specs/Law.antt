-- What waves, their texts and their traces have to do with each other.
use Rattle.std.specs.Prelude.{◌≡◌, ℕ, ◌-◌, ◌<◌, ◌≤◌, Bool, List, ◌++◌, length, take, Some, Ok, Err}
use Rattle.bs_bits.specs.Lines.{pieces_of}
use Rattle.bs_wave.specs.declared.fault.WaveFault.TheVariants.{Line}
use Rattle.bs_net.specs.Netlist.{circuit_of}
use Rattle.bs_net.specs.Parts.{Parts}
use Rattle.bs_net.specs.Order.{IsChecked}
use Rattle.bs_wave.specs.declared.wave.Wave.{Wave}
use Rattle.bs_wave.specs.Wave.{IsWaveOf, IsWayOf}
use Rattle.bs_wave.specs.WaveText.{wave_lines, wave_text, HasWaveText}
use Rattle.bs_wave.specs.WaveReading.{wave_in}
use Rattle.bs_wave.specs.WayIn.{trace_in}

-- A wave that has a text is read back from it,
abbrev pub WavesReadBack : Type 0
WavesReadBack = (w : Wave) → HasWaveText w → wave_in (wave_text w) ≡ Ok w

-- and what is read of a text has that text and no other.
abbrev pub WaveTextsAreExact : Type 0
WaveTextsAreExact = (text : List ℕ) (w : Wave) → wave_in text ≡ Ok w → HasWaveText w × (wave_text w ≡ text)

-- a trace has one wave
abbrev pub TracesHaveOneWave : Type 0
TracesHaveOneWave =
    (raw : Parts) (states inputs : List (List Bool)) (v w : Wave) → IsChecked (circuit_of raw) → IsWayOf (circuit_of raw) states inputs →
    IsWaveOf raw states inputs v → IsWaveOf raw states inputs w → v ≡ w

-- a wave shows the trace that it is of
abbrev pub WavesShowTraces : Type 0
WavesShowTraces =
    (raw : Parts) (states inputs : List (List Bool)) (w : Wave) → IsChecked (circuit_of raw) → IsWayOf (circuit_of raw) states inputs →
    IsWaveOf raw states inputs w → trace_in raw w ≡ Some (record { states = states; inputs = inputs })

-- ---- refused lines

-- these lines begin those of a wave that has a text
pub record BeginsWave (lines : List (List ℕ)) : Type 0 where
  pub wave : Wave
  pub has_text : HasWaveText wave
  pub rest : List (List ℕ)
  pub spells : wave_lines wave ≡ lines ++ rest

-- The whole lines before this one begin a wave's text. With this one they begin none, if it is a whole line: the last piece of a
-- text is none.
pub record IsWrongLine (pieces : List (List ℕ)) (n : ℕ) : Type 0 where
  pub counted : 1 ≤ n
  pub within : n ≤ length pieces
  pub before : BeginsWave (take (n - 1) pieces)
  pub wrong : n < length pieces → BeginsWave (take n pieces) → ⊥

-- a refused line is the first that cannot stand in its place, or behind the last one where lines are missing
abbrev pub WrongLinesAreNamed : Type 0
WrongLinesAreNamed = (text : List ℕ) (n : ℕ) → wave_in text ≡ Err (Line n) → IsWrongLine (pieces_of text) n
