use Rattle.std.proofs.Common.{◌≡◌}
use Rattle.std.specs.Str.{bytes_eq}
use Rattle.bs_wave.specs.WaveText.{id_of}
use Rattle.bs_wave.proofs.forms.is_id.Given as goal

abbrev pub invariant-digits : goal.invariant-digits
invariant-digits l = bytes_eq l.rest (id_of l.left) ≡ bytes_eq l.text (id_of l.net)

abbrev pub decreases-digits : goal.decreases-digits
decreases-digits l = l.left
