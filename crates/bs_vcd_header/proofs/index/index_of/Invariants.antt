use Rattle.std.proofs.Common.{map}
use Rattle.bs_vcd_header.specs.Header.{variable_in}
use Rattle.bs_vcd_header.specs.TagIndex.{IsIndex, places_in, tags_in}
use Rattle.bs_vcd_header.proofs.index.index_of.Given as goal

abbrev pub invariant-variables : goal.invariant-variables
invariant-variables l =
    IsIndex (tags_in l.paths l.path (map variable_in l.variables)) (places_in l.index.last) l.index.before.items l.variable-index
