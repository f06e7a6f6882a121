use Rattle.std.proofs.Common.{◌≡◌, take}
use Rattle.bs_report.specs.Valid.{finishes_in}
use Rattle.bs_audit.proofs.list_end.finishes_of.Given as goal

abbrev pub invariant-lines : goal.invariant-lines
invariant-lines l = l.ids ≡ finishes_in (take l.line-index l.lines)
