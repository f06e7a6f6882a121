use Rattle.std.proofs.Common.{◌≡◌, length}
use Rattle.bs_preimage_recorded.specs.Forward.{IsHeldIn}
use Rattle.bs_preimage_recorded.proofs.held.hold.Given as goal

abbrev pub invariant-lanes : goal.invariant-lanes
invariant-lanes l = record {
  wide : l.planes.wide ≡ l.wide;
  size : length l.planes.words ≡ length l.initial.planes.words;
  held : IsHeldIn l.wide l.input l.value l.planes.words l.lane;
}
