use Rattle.std.proofs.Common.{◌≡◌, ◌≤◌, ◌<◌, ◌+◌, ◌-◌, ℕ, true, false, length, get_or}
use Rattle.bs_flat_nets.specs.Numbering.{no_place, is_before}
use Rattle.bs_flat_nets.proofs.lookup.first_from.Given as goal

abbrev pub decreases-search : goal.decreases-search
decreases-search l = l.high - l.low

abbrev pub invariant-search : goal.invariant-search
invariant-search l = record {
  order : l.low ≤ l.high;
  most : l.high ≤ l.stop;
  within : l.stop ≤ length l.places;
  least : l.from ≤ l.stop → l.from ≤ l.low;
  below : (i : ℕ) → l.low ≡ i + 1 → l.from ≤ i → is_before (get_or l.places i no_place) l.place ≡ true;
  above : l.high < l.stop → is_before (get_or l.places l.high no_place) l.place ≡ false;
}
