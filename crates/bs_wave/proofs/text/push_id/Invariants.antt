use Rattle.std.proofs.Common.{◌≡◌, ◌++◌}
use Rattle.bs_wave.specs.Appending.{Begins}
use Rattle.bs_wave.specs.WaveText.{id_of}
use Rattle.bs_wave.proofs.text.push_id.Given as goal

abbrev pub invariant-digits : goal.invariant-digits
invariant-digits l = record {
  whole : l.into.items ++ id_of l.left ≡ l.initial.into.items ++ id_of l.net;
  begins : Begins l.initial.into.items l.into.items;
}

abbrev pub decreases-digits : goal.decreases-digits
decreases-digits l = l.left
