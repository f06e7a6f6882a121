use Rattle.std.proofs.Common.{◌≡◌, ◌+◌, ◌≤◌, take, vec_len, vec_capacity}
use Rattle.bs_wave.specs.Deciding.{values_where}
use Rattle.bs_wave.proofs.moments.known_values.Given as goal

abbrev pub invariant-nets : goal.invariant-nets
invariant-nets l = record {
  room : vec_len l.values + l.count ≤ vec_capacity l.values + l.n;
  so_far : l.values.items ≡ values_where (take l.n l.known) (take l.n l.sim.values);
}
