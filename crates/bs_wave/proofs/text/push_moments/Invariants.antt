use Rattle.std.proofs.Common.{◌≡◌, ◌++◌, [], take}
use Rattle.std.specs.List.{flat_map}
use Rattle.bs_bits.specs.Lines.{line}
use Rattle.bs_wave.specs.WaveText.{moment_lines}
use Rattle.bs_wave.proofs.text.push_moments.Given as goal

abbrev pub invariant-moments : goal.invariant-moments
invariant-moments l = l.into.items ≡ l.initial.into.items ++ flat_map line (moment_lines 0 [] (take l.moment l.moments))
