use Rattle.std.proofs.Common.{length, ap, ◌∙◌, subst, sym}
use Rattle.std.specs.Prelude.{IfSome}
use Rattle.bs_net.specs.Netlist.{circuit}
use Rattle.bs_net_facts.specs.Facts.{IsReal}
use Rattle.bs_net_facts.specs.Seen.{Seen}
use Rattle.bs_net_facts.proofs.SeenLemmas.{last_some}
use Rattle.bs_net_facts.proofs.moments.Moments.last_bit.Goals as goal

pub returns : goal.returns
returns c =
    let inside = c.self.inside in
    subst
    (λ (m : Seen). IfSome c.bit_of.result (λ bit. IsReal (circuit m.net) m.states m.inputs (record { net = c.args.net; cycle = c.args.cycle; bit = bit })))
    c.self.view_is
    (last_some inside.net.now inside.states.now inside.inputs.now inside.rows inside.last.items c.as_slice.result.now c.args.cycle c.args.net
    c.bit_of.result c.self.invariant (c.requires ∙ sym (ap (λ (m : Seen). length m.inputs) c.self.view_is)) c.as_slice.ensures.value c.bit_of.ensures)
