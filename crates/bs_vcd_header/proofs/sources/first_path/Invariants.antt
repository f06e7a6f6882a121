use Rattle.std.proofs.Common.{◌≡◌, map, drop}
use Rattle.bs_net_names.specs.Keys.{parts_in}
use Rattle.bs_vcd_header.specs.Header.{variable_in}
use Rattle.bs_vcd_header.specs.Sources.{first_path}
use Rattle.bs_vcd_header.proofs.sources.first_path.Given as goal

abbrev pub invariant-variables : goal.invariant-variables
invariant-variables l =
    first_path l.paths (parts_in l.key) (map variable_in l.variables)
    ≡ first_path l.paths (parts_in l.key) (map variable_in (drop l.variable-index l.variables))
