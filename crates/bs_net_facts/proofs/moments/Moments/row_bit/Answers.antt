use Rattle.std.proofs.Common.{◌<◌, ℕ, length, ap, arith, refl, subst, sym}
use Rattle.bs_net.specs.Netlist.{circuit}
use Rattle.bs_net_facts.specs.Facts.{IsReal}
use Rattle.bs_net_facts.specs.Seen.{Seen}
use Rattle.bs_net_facts.proofs.SeenLemmas.{row_real}
use Rattle.bs_net_facts.proofs.moments.Moments.row_bit.Goals as goal

pub returns-then-place-len-clause-some : goal.returns-then-place-len-clause-some
returns-then-place-len-clause-some c =
    let inside = c.self.inside in
    let lt : c.args.cycle < length inside.inputs.now =
    subst (λ (n : ℕ). c.args.cycle < n) (sym (ap (λ (m : Seen). length m.inputs) c.self.view_is)) c.requires in
    subst
    (λ (m : Seen). IsReal (circuit m.net) m.states m.inputs (record { net = c.args.net; cycle = c.args.cycle; bit = c.get.result.now }))
    c.self.view_is
    (row_real inside.net.now inside.states.now inside.inputs.now inside.rows inside.last.items c.args.cycle c.get-row.result.now
    (record { net = c.args.net; cycle = c.args.cycle; bit = c.get.result.now }) c.self.invariant lt c.get-row.ensures.lookup refl
    (omega (arith, c.if-place-len.true, c.len.ensures)) c.get.ensures.lookup)
