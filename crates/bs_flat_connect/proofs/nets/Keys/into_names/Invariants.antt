use Rattle.std.proofs.Common.{◌≡◌, ◌++◌, map, string_bytes}
use Rattle.bs_flat_connect.proofs.nets.Keys.into_names.Given as goal

abbrev pub invariant-keys : goal.invariant-keys
invariant-keys l = map string_bytes l.names ++ map string_bytes l.key-iterator ≡ l.fn.self
