use Rattle.std.proofs.Common.{◌≡◌, ◌≤◌, ◌+◌, length}
use Rattle.bs_lanes.specs.Layout.{AreListed}
use Rattle.bs_lanes.proofs.places.list_nets.Given as goal

abbrev pub invariant-nets : goal.invariant-nets
invariant-nets l = record {
  size : length l.places ≡ l.n;
  few : length l.listed ≤ length l.initial.listed + l.n;
  places : AreListed l.listed l.places;
}
