use Rattle.std.proofs.Common.{◌≡◌, ◌≤◌, take}
use Rattle.std.specs.List.{count_by}
use Rattle.bs_inspect_check.specs.Text.{is_set}
use Rattle.bs_inspect_check.proofs.text.count_set.Given as goal

abbrev pub invariant-bits : goal.invariant-bits
invariant-bits l = record {
  is : l.count ≡ count_by is_set (take l.i l.bits);
  few : l.count ≤ l.i;
}
