use Rattle.std.proofs.Common.{◌≡◌, map, take}
use Rattle.bs_vcd_header.specs.Header.{declared_in}
use Rattle.bs_vcd.specs.Found.{sources_of}
use Rattle.bs_vcd.proofs.found.indexed_sources.Given as goal

abbrev pub invariant-names : goal.invariant-names
invariant-names l = l.sources.items ≡ sources_of (declared_in l.declared) l.path (map (λ name. name.now) (take l.name-index l.names))
