use Rattle.std.proofs.Common.{take}
use Rattle.bs_rup.specs.LiteralSet.{UnmarksAll}
use Rattle.bs_rup.proofs.marks.LiteralSet.unmark_all.Given as goal

abbrev pub invariant-literals : goal.invariant-literals
invariant-literals l = UnmarksAll l.initial.self l.self (take l.literal-index l.literals)
