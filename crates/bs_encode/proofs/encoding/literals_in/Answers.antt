use Rattle.std.proofs.Common.{◌≡◌, ◌<◌, ◌∙◌, ap, List, length, arith, sym, subst}
use Rattle.std.specs.List.{All}
use Rattle.bs_net.specs.declared.net.NetId.{NetId}
use Rattle.bs_net.specs.Netlist.{circuit}
use Rattle.bs_net.proofs.NetlistLemmas.{without_placed}
use Rattle.bs_encode.proofs.encoding.literals_in.Goals as goal

pub net_literals-requires : goal.net_literals-requires
net_literals-requires c =
    let nets : c.slice.result.now ≡ (circuit c.args.net.now).inputs = c.slice.ensures ∙ c.data_inputs.ensures in
    let within : All (λ (n : NetId). n.0 < length c.args.net.now.raw.names) (circuit c.args.net.now).inputs =
    without_placed _ _ _ c.raw-raw.ensures.placed.inputs.1 in
    let small : All (λ (n : NetId). n.0 < 100000) (circuit c.args.net.now).inputs =
    λ k d lt. omega (arith, within k d lt, c.raw-raw.ensures.placed.few_names) in
    let P : List NetId → Type 0 = λ ns. All (λ (n : NetId). n.0 < 100000) ns in
    subst P (sym nets) small

pub literals_from-requires : goal.literals_from-requires
literals_from-requires c =
    (omega (arith, c.requires.next), omega (arith, c.requires.next, c.requires.room, c.len.ensures, ap (λ r. length r.flops) c.raw-raw.ensures.parts))
