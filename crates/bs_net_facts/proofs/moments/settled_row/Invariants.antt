use Rattle.std.proofs.Common.{◌≡◌, ◌+◌, ◌≤◌, take, vec_len, vec_capacity}
use Rattle.bs_net_facts.proofs.moments.settled_row.Given as goal

abbrev pub invariant-nets : goal.invariant-nets
invariant-nets l = record {
  room : vec_len l.row + l.count ≤ vec_capacity l.row + l.n;
  so_far : l.row.items ≡ take l.n l.sim.values;
}
