use Rattle.std.proofs.Common.{◌≡◌, filter, map, take}
use Rattle.bs_inspect_names.specs.Tagged.{is_near_key}
use Rattle.bs_inspect_names.proofs.tagged.keys_near.Given as goal

abbrev pub invariant-keys : goal.invariant-keys
invariant-keys l = map (λ k. k.now) l.found.items ≡ filter (is_near_key l.own l.whole) (map (λ k. k.now) (take l.i l.keys))
