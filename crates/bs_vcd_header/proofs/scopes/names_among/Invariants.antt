use Rattle.std.proofs.Common.{◌≡◌, map, take}
use Rattle.std.specs.Option.{option_map}
use Rattle.bs_vcd_header.specs.Header.{variable_in}
use Rattle.bs_vcd_header.specs.Scopes.{names_among}
use Rattle.bs_vcd_header.proofs.scopes.names_among.Given as goal

abbrev pub invariant-variables : goal.invariant-variables
invariant-variables l =
    map (λ n. n.now) l.names.items
    ≡ names_among (option_map (λ path. path.now) l.scope) l.paths (map variable_in (take l.variable-index l.variables))
