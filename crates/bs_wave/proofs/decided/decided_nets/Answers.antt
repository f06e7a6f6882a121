use Rattle.std.proofs.Common.{◌≡◌, ◌<◌, ◌∙◌, ap, sym, subst, ℕ, List, length, true}
use Rattle.std.specs.List.{All}
use Rattle.std.proofs.lemmas.List.{length-replicate}
use Rattle.bs_net.specs.declared.net.NetId.{NetId}
use Rattle.bs_net.specs.Netlist.{circuit}
use Rattle.bs_net.specs.Parts.{Parts}
use Rattle.bs_net.proofs.NetlistLemmas.{without_placed}
use Rattle.bs_wave.proofs.decided.decided_nets.Goals as goal

pub mark_nets-requires : goal.mark_nets-requires
mark_nets-requires c =
    let nets : c.slice.result.now ≡ (circuit c.args.net.now).inputs = c.slice.ensures ∙ c.data_inputs.ensures in
    let len : length c.in_ok-table.table.items ≡ (circuit c.args.net.now).nets =
    ap length c.in_ok-table.ensures ∙ (length-replicate c.len.result true ∙ (c.len.ensures ∙ ap (λ (r : Parts). length r.names) c.raw-raw.ensures.parts)) in
    let P : List NetId → Type 0 = λ ns. All (λ (n : NetId). n.0 < length c.in_ok-table.table.items) ns in
    let Q : ℕ → Type 0 = λ m. All (λ (n : NetId). n.0 < m) (circuit c.args.net.now).inputs in
    subst P (sym nets) (subst Q (sym len) (without_placed _ _ _ c.raw-raw.ensures.placed.inputs.1))
