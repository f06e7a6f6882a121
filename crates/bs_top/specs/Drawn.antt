-- What is written for a report whose waveform is asked for.
use Rattle.std.specs.Prelude.{◌≡◌, ℕ, List, Option, Some, None}
use Rattle.bs_net.specs.Parts.{Parts}
use Rattle.bs_report.specs.declared.report.Report.{Report}
use Rattle.bs_report.specs.declared.part.Part.{Part}
use Rattle.bs_wave.specs.declared.wave.Wave.{Wave}
use Rattle.bs_wave.specs.Wave.{IsWaveOf}
use Rattle.bs_wave.specs.WaveText.{wave_text}
use Rattle.bs_top.specs.Rejected.{rejected_text}

-- the text of the wave of the report's trace
pub record IsTraceWave (raw : Parts) (report : Report) (text : List ℕ) : Type 0 where
  pub wave : Wave
  pub is : IsWaveOf raw report.states report.inputs wave
  pub written : text ≡ wave_text wave

-- the line for the first part that fails, and the waveform where none does
abbrev pub IsDrawn : Parts → Report → Option Part → List ℕ → Type 0
IsDrawn raw report None text = IsTraceWave raw report text
IsDrawn raw report (Some part) text = text ≡ rejected_text part
