use Rattle.std.proofs.Common.{take}
use Rattle.bs_flat_meaning.specs.Marks.{Marks}
use Rattle.bs_flat_meaning.proofs.marks.mark.Given as goal

abbrev pub invariant-modules : goal.invariant-modules
invariant-modules l = Marks l.initial.marks.items l.marks.items (take l.module-index l.modules)
