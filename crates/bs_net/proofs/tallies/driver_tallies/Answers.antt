use Rattle.std.proofs.Common.{ap, ◌∙◌, map, replicate}
use Rattle.bs_net.specs.Netlist.{parts_of}
use Rattle.bs_net.specs.declared.net.Gate.{Gate}
use Rattle.bs_net.specs.declared.net.Flop.{Flop}
use Rattle.bs_net.specs.declared.net.Const.{Const}
use Rattle.bs_net.specs.Tallies.{tallied}
use Rattle.bs_net.specs.Check.{driver_nets}
use Rattle.bs_net.specs.declared.tallies.UseCount.TheVariants.{Never}
use Rattle.bs_net.proofs.TallyLemmas.{four_tallied}
use Rattle.bs_net.proofs.tallies.driver_tallies.Goals as goal

pub returns : goal.returns
returns c =
    let r = (parts_of c.args.raw.now) in
    four_tallied c.in_ok-table.table.items c.count_nets.new.table.items c.count_states.new.table.items c.count_constants.new.table.items
    c.count_outputs.new.table.items r.inputs (map (λ (f : Flop). f.q) r.flops) (map (λ (k : Const). k.net) r.consts) (map (λ (g : Gate). g.out) r.gates)
    (c.count_nets.ensures.counts ∙ ap (tallied c.in_ok-table.table.items) c.slice.ensures)
    (c.count_states.ensures.counts
    ∙ ap (λ fs. tallied c.count_nets.new.table.items (map (λ (f : Flop). f.q) fs)) c.slice-2.ensures)
    (c.count_constants.ensures.counts
    ∙ ap (λ ks. tallied c.count_states.new.table.items (map (λ (k : Const). k.net) ks)) c.slice-3.ensures)
    (c.count_outputs.ensures.counts
    ∙ ap (λ gs. tallied c.count_constants.new.table.items (map (λ (g : Gate). g.out) gs)) c.slice-4.ensures)
    ∙ (ap (λ t. tallied t (driver_nets r)) c.in_ok-table.ensures
    ∙ ap (λ k. tallied (replicate k Never) (driver_nets r)) c.len.ensures)
