use Rattle.std.proofs.Common.{◌≡◌, length}
use Rattle.bs_chip.specs.Parities.{HaveParities}
use Rattle.bs_chip.proofs.parities.put_parities.Given as goal

abbrev pub invariant-words : goal.invariant-words
invariant-words l = record {
  size : length l.items.items ≡ length l.initial.items.items;
  have : HaveParities l.choice.items l.planes l.wide l.at l.items.items;
}
