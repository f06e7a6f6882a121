use Rattle.std.proofs.Common.{subst, List}
use Rattle.bs_net.specs.Netlist.{parts_of}
use Rattle.bs_net.specs.declared.net.Gate.{Gate}
use Rattle.bs_net.specs.declared.order.Levelling.{Levelling}
use Rattle.bs_net.specs.Loops.{IsLoop, IsLevelling}
use Rattle.bs_net.proofs.LoopLemmas.{loops_have_no_order}
use Rattle.bs_net.proofs.SingleLemmas.{outs_distinct}
use Rattle.bs_net.proofs.order.gate_order.Goals as goal

pub levelize-requires-clause-single : goal.levelize-requires-clause-single
levelize-requires-clause-single c = rw c.slice.ensures (outs_distinct (parts_of c.args.raw.now) c.requires.placed c.requires.nets.single)

pub returns-in-Looped-clause-err : goal.returns-in-Looped-clause-err
returns-in-Looped-clause-err c =
    let P : Levelling → Type 0 = λ l. IsLevelling c.slice.result.now l in
    let Q : List Gate → Type 0 = λ gs. IsLoop gs c.in-Looped.gates in
    let loop : IsLoop c.args.raw.now.gates c.in-Looped.gates = subst Q c.slice.ensures (subst P c.in-Looped.is c.in_ok-order.ensures) in
    (c.requires.nets, (λ o. loops_have_no_order c.args.raw.now.gates c.in-Looped.gates o.0 loop o.1), loop)
