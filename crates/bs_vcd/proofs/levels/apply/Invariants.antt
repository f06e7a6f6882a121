use Rattle.std.proofs.Common.{◌≡◌, take, map}
use Rattle.bs_vcd.specs.History.{change_in}
use Rattle.bs_vcd.specs.Levels.{known_in}
use Rattle.bs_vcd.specs.Watching.{known_after}
use Rattle.bs_vcd.proofs.levels.apply.Given as goal

abbrev pub invariant-changes : goal.invariant-changes
invariant-changes l = known_in l.known ≡ known_after (known_in l.initial.known) (map change_in (take l.change-index l.changes))
