use Rattle.std.proofs.Common.{◌≡◌, map, take}
use Rattle.bs_vcd.specs.Found.{or_nowhere}
use Rattle.bs_vcd.proofs.found.each_or_nowhere.Given as goal

abbrev pub invariant-sources : goal.invariant-sources
invariant-sources l = l.inputs.items ≡ map or_nowhere (take l.source-index l.sources)
