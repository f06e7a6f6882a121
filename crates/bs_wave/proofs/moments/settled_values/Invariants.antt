use Rattle.std.proofs.Common.{◌≡◌, ◌+◌, ◌≤◌, map, take, vec_len, vec_capacity}
use Rattle.bs_wave.specs.Wave.{value_of}
use Rattle.bs_wave.proofs.moments.settled_values.Given as goal

abbrev pub invariant-nets : goal.invariant-nets
invariant-nets l = record {
  room : vec_len l.values + l.count ≤ vec_capacity l.values + l.n;
  so_far : l.values.items ≡ map value_of (take l.n l.sim.values);
}
