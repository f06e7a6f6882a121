use Rattle.std.proofs.Common.{◌≡◌, take, map}
use Rattle.std.specs.Option.{option_map}
use Rattle.bs_vcd.specs.History.{change_in}
use Rattle.bs_vcd.specs.Levels.{latest}
use Rattle.bs_vcd.proofs.levels.latest.Given as goal

abbrev pub invariant-changes : goal.invariant-changes
invariant-changes l = option_map (λ bits. bits.now) l.found ≡ latest l.id (map change_in (take l.change-index l.changes))
