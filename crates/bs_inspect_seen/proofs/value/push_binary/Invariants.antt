use Rattle.std.proofs.Common.{◌≡◌, ◌++◌, ◌-◌}
use Rattle.bs_inspect_seen.specs.Value.{binary}
use Rattle.bs_inspect_seen.proofs.value.push_binary.Given as goal

abbrev pub invariant-digits : goal.invariant-digits
invariant-digits l = l.bits.items ++ binary (l.count - l.counter) l.left ≡ l.initial.bits.items ++ binary l.count l.number
