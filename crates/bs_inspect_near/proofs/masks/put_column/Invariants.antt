use Rattle.bs_inspect_near.proofs.MaskLemmas.{ColumnSo}
use Rattle.bs_inspect_near.proofs.masks.put_column.Given as goal

abbrev pub invariant-planes : goal.invariant-planes
invariant-planes l = ColumnSo l.planes l.wide l.word l.i l.initial.words.items l.words.items
