use Rattle.std.proofs.Common.{◌≡◌, take}
use Rattle.bs_vcd.specs.Levels.{known_in}
use Rattle.bs_inspect_check.specs.Samples.{levels_by}
use Rattle.bs_inspect_check.proofs.tally.levels_of.Given as goal

abbrev pub invariant-sources : goal.invariant-sources
invariant-sources l = l.levels ≡ levels_by (take l.source-index l.sources) (known_in l.known)
