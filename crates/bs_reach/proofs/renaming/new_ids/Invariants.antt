use Rattle.std.proofs.Common.{◌≡◌, take, map}
use Rattle.bs_reach.specs.Renamed.{new_id}
use Rattle.bs_reach.proofs.renaming.new_ids.Given as goal

abbrev pub invariant-ids : goal.invariant-ids
invariant-ids l = l.new ≡ map (new_id l.s) (take l.id-index l.ids)
