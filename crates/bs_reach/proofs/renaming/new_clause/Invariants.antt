use Rattle.std.proofs.Common.{◌≡◌, take, map}
use Rattle.bs_reach.specs.Renamed.{new_literal}
use Rattle.bs_reach.proofs.renaming.new_clause.Given as goal

abbrev pub invariant-literals : goal.invariant-literals
invariant-literals l = l.new ≡ map (new_literal l.s) (take l.l-index l.clause)
