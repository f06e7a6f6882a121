use Rattle.std.proofs.Common.{◌≡◌, drop}
use Rattle.bs_inspect_usages.specs.Usages.{line_in}
use Rattle.bs_inspect_usages.proofs.usage.line_in.Given as goal

abbrev pub invariant-entries : goal.invariant-entries
invariant-entries l = record { left : line_in l.name (drop l.entry-index l.table) ≡ line_in l.name l.table }
