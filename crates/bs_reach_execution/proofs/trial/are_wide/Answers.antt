use Rattle.std.proofs.Common.{◌≡◌, ◌∙◌, List, Bool, length, subst, sym, ap, arith}
use Rattle.std.specs.Prelude.{All}
use Rattle.std.proofs.lemmas.List.{take_all}
use Rattle.std.proofs.lemmas.List.Elements.{All-more}
use Rattle.bs_net.specs.Netlist.{circuit}
use Rattle.bs_reach_execution.proofs.trial.are_wide.Goals as goal

pub inputs-preserved : goal.inputs-preserved
inputs-preserved c =
    let P : List Bool → Type 0 = λ x. length x ≡ length (circuit c.args.net.now).inputs in
    let same : c.len.result ≡ c.len-width.result = omega (arith, c.if-len-width.false) in
    All-more P c.args.inputs.now c.inputs.input-index c.input-item.result c.inputs-test.true c.inputs.invariant
    (subst P c.input-item.is (sym c.len.ensures ∙ (same ∙ (c.len-width.ensures ∙ ap length c.data_inputs.ensures))))

pub returns : goal.returns
returns c =
    subst (All (λ (x : List Bool). length x ≡ length (circuit c.args.net.now).inputs))
    (take_all c.inputs.input-index c.args.inputs.now (omega arith)) c.inputs.invariant
