use Rattle.std.proofs.Common.{ap, ◌∙◌, map, replicate}
use Rattle.std.specs.List.{flat_map}
use Rattle.bs_net.specs.Netlist.{parts_of}
use Rattle.bs_net.specs.declared.net.Gate.{Gate}
use Rattle.bs_net.specs.declared.net.Flop.{Flop}
use Rattle.bs_net.specs.Tallies.{tallied}
use Rattle.bs_net.specs.Check.{reader_nets}
use Rattle.bs_net.specs.Parts.{load_nets}
use Rattle.bs_net.specs.declared.tallies.UseCount.TheVariants.{Never}
use Rattle.bs_net.proofs.TallyLemmas.{four_tallied}
use Rattle.bs_net.proofs.tallies.reader_tallies.Goals as goal

pub returns : goal.returns
returns c =
    let r = (parts_of c.args.raw.now) in
    four_tallied c.in_ok-table.table.items c.count_inputs.new.table.items c.count_loads.new.table.items c.count_clocks.new.table.items
    c.count_nets.new.table.items (flat_map (λ (g : Gate). g.ins) r.gates) (flat_map load_nets r.flops) (map (λ (f : Flop). f.ck) r.flops) r.outputs
    (c.count_inputs.ensures.counts
    ∙ ap (λ gs. tallied c.in_ok-table.table.items (flat_map (λ (g : Gate). g.ins) gs)) c.slice.ensures)
    (c.count_loads.ensures.counts
    ∙ ap (λ fs. tallied c.count_inputs.new.table.items (flat_map load_nets fs)) c.slice-2.ensures)
    (c.count_clocks.ensures.counts
    ∙ ap (λ fs. tallied c.count_loads.new.table.items (map (λ (f : Flop). f.ck) fs)) c.slice-3.ensures)
    (c.count_nets.ensures.counts ∙ ap (tallied c.count_clocks.new.table.items) c.slice-4.ensures)
    ∙ (ap (λ t. tallied t (reader_nets r)) c.in_ok-table.ensures
    ∙ ap (λ k. tallied (replicate k Never) (reader_nets r)) c.len.ensures)
