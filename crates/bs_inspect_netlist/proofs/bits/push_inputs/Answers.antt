use Rattle.std.proofs.Common.{◌<◌, arith, ap, ℕ, length, subst, sym}
use Rattle.bs_net.specs.Parts.{Parts}
use Rattle.bs_inspect_netlist.proofs.MarkLemmas.{input_placed}
use Rattle.bs_inspect_netlist.proofs.bits.push_inputs.Goals as goal

pub push_input-requires-clause-named : goal.push_input-requires-clause-named
push_input-requires-clause-named c =
    let P : ℕ → Type 0 = λ k. c.get.result.now.0 < k in
    subst P (sym (ap (λ (r : Parts). length r.names) c.raw-raw.ensures.parts))
    (input_placed c.args.net.now.raw c.data_inputs-inputs.result.now c.inputs.i c.get.result.now c.raw-raw.ensures.placed c.data_inputs-inputs.ensures
    (omega (arith, c.inputs-test.true, c.len-i-end.ensures)) c.get.ensures.value)
