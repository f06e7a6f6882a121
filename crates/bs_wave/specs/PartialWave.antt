-- What is read of a wave's text so far, as the definitions see it.
use Rattle.std.specs.Prelude.{ℕ, ◌==◌, List, [], ◌∷◌, Option, Some, None, if◌then◌else◌}
use Rattle.bs_wave.specs.declared.partial_wave.PartialWave.{PartialWave as CodePartialWave}
use Rattle.bs_wave.specs.declared.forms.Change.{Change as CodeChange}
use Rattle.bs_wave.specs.WaveReading.{PartialWave, Change}

abbrev pub begun_in : CodePartialWave → PartialWave
begun_in b = record { keys = b.keys; moments = b.moments; values = b.values.items }

abbrev pub change_of : CodeChange → Change
change_of c = record { net = c.net; value = c.value }

-- the rest of a text that begins with a digit
abbrev pub behind_digit : ℕ → List ℕ → Option (List ℕ)
behind_digit digit [] = None
behind_digit digit (first ∷ rest) = if first == digit then Some rest else None
