use Rattle.std.proofs.Common.{arith, refl}
use Rattle.bs_net_facts.proofs.BoardLemmas.{kept_pushed}
use Rattle.bs_net_facts.proofs.mark_table.Board.put.Goals as goal

pub invariant_of-self-2 : goal.invariant_of-self-2
invariant_of-self-2 c =
    kept_pushed c.self.inside.net.now c.self.inside.marks.items _ c.self.inside.trail.items _ c.args.net.0 c.args.mark c.self.invariant
    (omega (arith, c.if-place-len.false, c.len.ensures)) refl c.in_ok-push.ensures.items
