use Rattle.std.proofs.Common.{◌≡◌, take, map}
use Rattle.bs_reach.specs.Renamed.{new_line}
use Rattle.bs_reach.proofs.renaming.renamed.Given as goal

abbrev pub invariant-lines : goal.invariant-lines
invariant-lines l = l.new ≡ map (new_line l.s) (take l.line-index l.log)
