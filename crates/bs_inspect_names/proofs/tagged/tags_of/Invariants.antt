use Rattle.std.proofs.Common.{◌≡◌, map, take}
use Rattle.bs_inspect_names.specs.Tagged.{key_tag}
use Rattle.bs_inspect_names.proofs.tagged.tags_of.Given as goal

abbrev pub invariant-keys : goal.invariant-keys
invariant-keys l = l.tags.items ≡ map (λ k. key_tag k.now) (take l.key-index l.keys)
