use Rattle.std.proofs.Common.{◌∙◌, ap, List, ℕ, replicate}
use Rattle.std.specs.List.{flat_map}
use Rattle.bs_net.specs.declared.net.Gate.{Gate}
use Rattle.bs_net.specs.declared.net.Flop.{Flop}
use Rattle.bs_net.specs.Netlist.{parts_of}
use Rattle.bs_net.specs.Parts.{load_nets}
use Rattle.bs_inspect_netlist.specs.Tallies.{counted}
use Rattle.bs_inspect_netlist.proofs.TallyLemmas.{readers_counted}
use Rattle.bs_inspect_netlist.proofs.tally.reader_counts.Goals as goal

pub returns : goal.returns
returns c =
    readers_counted (parts_of c.args.raw.now) c.in_ok-table.table.items c.count_inputs.new.table.items c.count_loads.new.table.items
    (c.in_ok-table.ensures ∙ ap (λ (n : ℕ). replicate n 0) c.len.ensures)
    (c.count_inputs.ensures.counts ∙ ap (λ (gs : List Gate). counted c.in_ok-table.table.items (flat_map (λ (g : Gate). g.ins) gs)) c.slice.ensures)
    (c.count_loads.ensures.counts ∙ ap (λ (fs : List Flop). counted c.count_inputs.new.table.items (flat_map load_nets fs)) c.slice-2.ensures)
