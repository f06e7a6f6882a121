use Rattle.std.proofs.Common.{◌≡◌, map, drop}
use Rattle.bs_net_names.specs.Keys.{parts_in}
use Rattle.bs_vcd_header.specs.Header.{variable_in}
use Rattle.bs_vcd_header.specs.Sources.{source_in}
use Rattle.bs_vcd_header.proofs.sources.source_in.Given as goal

abbrev pub invariant-variables : goal.invariant-variables
invariant-variables l =
    source_in l.paths l.path (parts_in l.key) (map variable_in l.variables)
    ≡ source_in l.paths l.path (parts_in l.key) (map variable_in (drop l.variable-index l.variables))
