use Rattle.std.proofs.Common.{◌≡◌, take}
use Rattle.bs_wave.proofs.tracing.same_keys.Given as goal

abbrev pub invariant-keys : goal.invariant-keys
invariant-keys l = take l.n l.keys ≡ take l.n l.names
