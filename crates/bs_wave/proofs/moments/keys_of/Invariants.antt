use Rattle.std.proofs.Common.{◌≡◌, take}
use Rattle.bs_wave.proofs.moments.keys_of.Given as goal

abbrev pub invariant-nets : goal.invariant-nets
invariant-nets l = l.keys ≡ take l.n l.net.raw.names
