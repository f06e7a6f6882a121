use Rattle.std.proofs.Common.{◌≡◌, length, take}
use Rattle.bs_stim.specs.Packing.{bits_in}
use Rattle.bs_stim.proofs.packed.copy_bits.Given as goal

abbrev pub invariant-places : goal.invariant-places
invariant-places l = record {
  width : length l.into ≡ length l.initial.into;
  copied : take l.place l.into ≡ bits_in l.words l.start l.place;
}
