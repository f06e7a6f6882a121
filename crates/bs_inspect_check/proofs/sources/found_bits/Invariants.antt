use Rattle.std.proofs.Common.{◌≡◌, map, take}
use Rattle.bs_vcd.specs.Found.{is_found}
use Rattle.bs_inspect_check.proofs.sources.found_bits.Given as goal

abbrev pub invariant-sources : goal.invariant-sources
invariant-sources l = l.bits ≡ map is_found (take l.source-index l.sources)
