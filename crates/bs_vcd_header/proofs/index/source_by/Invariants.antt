use Rattle.bs_net_names.specs.Keys.{parts_in}
use Rattle.bs_vcd_header.proofs.IndexLemmas.{IsFrom, left}
use Rattle.bs_vcd_header.proofs.index.source_by.Given as goal

abbrev pub invariant-places : goal.invariant-places
invariant-places l = IsFrom l.paths l.path (parts_in l.key) l.variables l.at l.found

abbrev pub decreases-places : goal.decreases-places
decreases-places l = left l.at
