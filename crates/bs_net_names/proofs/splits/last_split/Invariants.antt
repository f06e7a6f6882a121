use Rattle.std.proofs.Common.{◌≡◌, ◌≤◌, drop, length, None}
use Rattle.bs_net_names.specs.Splits.{last_split}
use Rattle.bs_net_names.proofs.splits.last_split.Given as goal

abbrev pub invariant-text : goal.invariant-text
invariant-text l = record {
  within : l.i ≤ length l.text;
  none : last_split l.byte (drop l.i l.text) ≡ None;
}

abbrev pub decreases-text : goal.decreases-text
decreases-text l = l.i
