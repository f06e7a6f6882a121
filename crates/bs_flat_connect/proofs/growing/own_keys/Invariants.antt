use Rattle.std.proofs.Common.{◌≡◌, take}
use Rattle.bs_flat_connect.proofs.growing.own_keys.Given as goal

abbrev pub invariant-names : goal.invariant-names
invariant-names l = l.keys ≡ take l.i l.names
