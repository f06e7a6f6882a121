use Rattle.std.proofs.Common.{◌≡◌, map, take}
use Rattle.bs_inspect_names.specs.Mapping.{entry_in, names_of}
use Rattle.bs_inspect_names.proofs.naming.names_of.Given as goal

abbrev pub invariant-keys : goal.invariant-keys
invariant-keys l = l.names ≡ names_of (map entry_in l.lines.entries.items) (map (λ k. k.now) (take l.key-index l.keys))
