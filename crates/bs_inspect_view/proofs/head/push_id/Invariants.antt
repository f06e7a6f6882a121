use Rattle.std.proofs.Common.{◌≡◌, ◌++◌}
use Rattle.bs_wave.specs.WaveText.{id_of}
use Rattle.bs_inspect_view.proofs.head.push_id.Given as goal

abbrev pub invariant-digits : goal.invariant-digits
invariant-digits l = l.text.items ++ id_of l.left ≡ l.initial.text.items ++ id_of l.number

abbrev pub decreases-digits : goal.decreases-digits
decreases-digits l = l.left
