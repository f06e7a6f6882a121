use Rattle.std.proofs.Common.{◌≡◌}
use Rattle.bs_wave.specs.WaveReading.{net_with}
use Rattle.bs_wave.proofs.forms.net_with.Given as goal

abbrev pub invariant-nets : goal.invariant-nets
invariant-nets l = net_with l.net l.count l.text ≡ net_with l.next l.count l.text
