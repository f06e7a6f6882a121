use Rattle.std.proofs.Common.{◌≡◌}
use Rattle.std.specs.List.{flat_map, range_with_len}
use Rattle.bs_inspect_report.specs.Remarks.{remark}
use Rattle.bs_inspect_report.proofs.remarks.remarks_text.Given as goal

abbrev pub invariant-states : goal.invariant-states
invariant-states l = l.text.items ≡ flat_map (remark l.report) (range_with_len 0 l.i)
