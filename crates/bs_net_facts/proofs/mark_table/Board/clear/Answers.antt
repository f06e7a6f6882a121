use Rattle.std.proofs.Common.{refl}
use Rattle.bs_net_facts.proofs.BoardLemmas.{blank_kept, cleared_blank}
use Rattle.bs_net_facts.proofs.mark_table.Board.clear.Goals as goal

pub returns-clause-blank : goal.returns-clause-blank
returns-clause-blank c =
    cleared_blank c.self.inside.net.now c.self.inside.marks.items c.self.inside.marks.items c.unmark.new.marks.items c.self.inside.trail.items
    c.as_slice.result.now c.self.invariant c.as_slice.ensures.value refl c.unmark.ensures

pub invariant_of-self : goal.invariant_of-self
invariant_of-self c = blank_kept c.self.inside.net.now c.unmark.new.marks.items c.truncate.new.self.items (returns-clause-blank c) c.truncate.ensures.items
