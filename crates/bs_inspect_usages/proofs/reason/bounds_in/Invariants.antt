use Rattle.std.proofs.Common.{◌≡◌, drop}
use Rattle.bs_inspect_usages.specs.Usages.{bounds_in}
use Rattle.bs_inspect_usages.proofs.reason.bounds_in.Given as goal

abbrev pub invariant-entries : goal.invariant-entries
invariant-entries l = bounds_in l.command l.name (drop l.entry-index l.table) ≡ bounds_in l.command l.name l.table
