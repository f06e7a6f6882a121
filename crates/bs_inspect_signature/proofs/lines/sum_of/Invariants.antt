use Rattle.std.proofs.Common.{◌≡◌, ◌≤◌, ◌*◌, ◌^◌, take}
use Rattle.std.specs.List.{sum_by}
use Rattle.bs_inspect_signature.specs.MomentCount.{number_of}
use Rattle.bs_inspect_signature.proofs.lines.sum_of.Given as goal

abbrev pub invariant-lists : goal.invariant-lists
invariant-lists l = record {
  sum : l.sum ≡ sum_by (λ entry. number_of entry.count) (take l.i l.all);
  small : l.sum ≤ l.i * 2 ^ 32;
}
