use Rattle.std.proofs.Common.{◌≡◌, ◌++◌, map, take}
use Rattle.bs_vcd_header.proofs.scopes.scopes_among.Given as goal

abbrev pub invariant-paths : goal.invariant-paths
invariant-paths l = take 1 l.paths ++ map (λ n. n.now) l.scopes.items ≡ take l.scope l.paths
