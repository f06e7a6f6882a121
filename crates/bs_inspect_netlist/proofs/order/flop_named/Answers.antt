use Rattle.std.proofs.Common.{ap, map, ◌∙◌}
use Rattle.std.specs.List.{position}
use Rattle.bs_net_names.specs.Keys.{KeyParts, parts_in}
use Rattle.bs_net_names.specs.Rtl.{same_name}
use Rattle.bs_scan.proofs.KeyLemmas.{named_at}
use Rattle.bs_inspect_netlist.proofs.order.flop_named.Goals as goal

pub returns : goal.returns
returns c =
    c.place_of.ensures
    ∙ (named_at c.args.flops.now (parts_in c.key_parts.result)
    ∙ ap (λ (own : KeyParts). position (λ key. same_name key own) (map parts_in c.args.flops.now)) c.key_parts.ensures)
