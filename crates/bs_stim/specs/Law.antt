-- The text of runs stands for them, and what stands for runs is their text.
use Rattle.std.specs.Prelude.{◌≡◌, ◌⊎◌, ℕ, List, Ok}
use Rattle.bs_bits.specs.Lines.{line, lines_of}
use Rattle.bs_stim.specs.Runs.{Stimulus, IsStimulus}
use Rattle.bs_stim.specs.StimulusText.{stimulus_of, stimulus_text}

abbrev pub StimuliReadBack : Type 0
StimuliReadBack =
    (stimulus : Stimulus) → IsStimulus stimulus → stimulus_of stimulus.width (lines_of (stimulus_text stimulus)) ≡ Ok stimulus

-- and so does the text without its last line feed
abbrev pub UnendedStimuliReadBack : Type 0
UnendedStimuliReadBack =
    (stimulus : Stimulus) → IsStimulus stimulus → (text : List ℕ) → line text ≡ stimulus_text stimulus →
    stimulus_of stimulus.width (lines_of text) ≡ Ok stimulus

-- a text that stands for runs is their text, or it without the last line feed
abbrev pub StimulusTextsAreExact : Type 0
StimulusTextsAreExact =
    (width : ℕ) (text : List ℕ) (stimulus : Stimulus) → stimulus_of width (lines_of text) ≡ Ok stimulus →
    (text ≡ stimulus_text stimulus) ⊎ (line text ≡ stimulus_text stimulus)
