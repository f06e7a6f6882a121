use Rattle.std.proofs.Common.{◌≡◌, map, take}
use Rattle.bs_inspect_names.proofs.naming.slices_of.Given as goal

abbrev pub invariant-names : goal.invariant-names
invariant-names l = map (λ n. n.now) l.slices.items ≡ take l.place l.names
