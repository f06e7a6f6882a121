use Rattle.std.proofs.Common.{ap, ◌∙◌, arith}
use Rattle.bs_net.specs.Netlist.{circuit}
use Rattle.bs_net_facts.proofs.CycleLemmas.{carry_pushed}
use Rattle.bs_net_facts.proofs.known_loads.carry_numbered.Goals as goal

pub returns : goal.returns
returns c =
    carry_pushed (circuit c.args.net.now) c.args.marks.now c.slice-flops.result.now c.args.kept.now.items c.push_kept.new.kept.items c.args.number _
    c.flop_mark.result (c.slice-flops.ensures ∙ ap (λ r. r.flops) c.raw.ensures.parts) (omega (arith, c.if-place-flops.false)) c.flop_mark.ensures
    c.in_ok-push_kept.ensures
