use Rattle.std.proofs.Common.{◌≡◌, ◌++◌, map, take}
use Rattle.bs_wave.specs.WaveText.{value_code}
use Rattle.bs_inspect_view.proofs.value.push_codes.Given as goal

abbrev pub invariant-values : goal.invariant-values
invariant-values l = l.text.items ≡ l.initial.text.items ++ map value_code (take l.value-index l.values)
