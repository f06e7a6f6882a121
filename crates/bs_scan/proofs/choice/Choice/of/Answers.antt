use Rattle.std.proofs.Common.{◌∙◌}
use Rattle.bs_scan.proofs.RegisterLemmas.{bit_pushed}
use Rattle.bs_scan.proofs.choice.Choice.of.Goals as goal

pub items-preserved : goal.items-preserved
items-preserved c =
    c.in_ok-push.ensures.ok
    ∙ rw (c.parity.ensures, c.slice.ensures)
    (bit_pushed c.args.self.now c.args.state.now c.items.bits c.items.i c.item.result.now c.item.ensures.lookup c.items.invariant)
