use Rattle.std.proofs.Common.{take}
use Rattle.bs_net_facts.specs.Marked.{Unmarks}
use Rattle.bs_net_facts.proofs.mark_table.unmark.Given as goal

abbrev pub invariant-nets : goal.invariant-nets
invariant-nets l = Unmarks (take l.net-index l.nets) l.initial.marks.items l.marks.items
