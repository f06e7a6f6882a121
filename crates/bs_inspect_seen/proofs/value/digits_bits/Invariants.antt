use Rattle.std.proofs.Common.{◌≡◌, ◌≤◌, drop, length}
use Rattle.bs_inspect_seen.specs.Value.{digits_bits}
use Rattle.bs_inspect_seen.proofs.value.digits_bits.Given as goal

abbrev pub invariant-digits : goal.invariant-digits
invariant-digits l = record {
  within : l.left ≤ length l.digits;
  is : l.bits.items ≡ digits_bits l.base (drop l.left l.digits);
}

abbrev pub decreases-digits : goal.decreases-digits
decreases-digits l = l.left
