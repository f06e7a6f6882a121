use Rattle.std.proofs.Common.{map, ◌∙◌}
use Rattle.std.specs.Option.{option_map}
use Rattle.bs_inspect_netlist_requests.proofs.NetlistLemmas.{values_noted}
use Rattle.bs_inspect_netlist_requests.proofs.sources.stop_values.Goals as goal

pub returns-clause-note : goal.returns-clause-note
returns-clause-note c =
    values_noted c.args.netlist.now (option_map (λ s. s.now) c.args.names) _ (map (λ s. s.now) c.args.vcds.now) _ _ _
    c.named_values.ensures (c.as_str.ensures.value ∙ c.in_ok-vcd.ensures) c.in_ok-answer.ensures.note
