use Rattle.std.proofs.Common.{◌≡◌, length}
use Rattle.bs_chip.specs.Parities.{HaveParities}
use Rattle.bs_preimage_recorded.proofs.groups.put_parities.Given as goal

abbrev pub invariant-words : goal.invariant-words
invariant-words l = record {
  size : length l.parities.items ≡ length l.initial.parities.items;
  have : HaveParities l.groups l.planes l.wide l.at l.parities.items;
}
