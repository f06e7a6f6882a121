use Rattle.std.proofs.Common.{◌≡◌, ◌++◌, take}
use Rattle.std.specs.List.{flat_map}
use Rattle.bs_bits.specs.Lines.{line}
use Rattle.bs_wave.specs.WaveText.{net_lines}
use Rattle.bs_wave.proofs.text.push_nets.Given as goal

abbrev pub invariant-nets : goal.invariant-nets
invariant-nets l = l.into.items ≡ l.initial.into.items ++ flat_map line (net_lines 0 (take l.net l.keys))
