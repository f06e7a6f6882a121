use Rattle.std.proofs.Common.{◌≡◌, ◌∙◌, not, ap, subst, sym}
use Rattle.std.specs.List.{list_all, list_any}
use Rattle.bs_net.specs.declared.gate.Kind.{Kind}
use Rattle.bs_net.specs.declared.net.NetId.{NetId}
use Rattle.bs_net.specs.Circuit.{shown, bit_at}
use Rattle.bs_net.specs.Gate.{gate_value, is_odd}
use Rattle.bs_net.proofs.SettleLemmas.{all_shown, any_shown}
use Rattle.bs_sim.proofs.valuation.gate_bit.Goals as goal

pub returns-in-And : goal.returns-in-And
returns-in-And c =
    let v = c.args.values.now in
    let ins = c.args.gate.now.ins in
    subst (λ (k : Kind). c.all_one.result ≡ gate_value k (shown v ins)) (sym c.in-And.is)
    (c.all_one.ensures ∙ (ap (list_all (λ (n : NetId). bit_at v n.0)) c.slice-ins.ensures ∙ sym (all_shown v ins)))

pub returns-in-Nand : goal.returns-in-Nand
returns-in-Nand c =
    let v = c.args.values.now in
    let ins = c.args.gate.now.ins in
    subst (λ (k : Kind). not c.all_one-in-Nand.result ≡ gate_value k (shown v ins)) (sym c.in-Nand.is)
    (ap not (c.all_one-in-Nand.ensures ∙ (ap (list_all (λ (n : NetId). bit_at v n.0)) c.slice-ins.ensures ∙ sym (all_shown v ins))))

pub returns-in-Or : goal.returns-in-Or
returns-in-Or c =
    let v = c.args.values.now in
    let ins = c.args.gate.now.ins in
    subst (λ (k : Kind). c.any_one.result ≡ gate_value k (shown v ins)) (sym c.in-Or.is)
    (c.any_one.ensures ∙ (ap (list_any (λ (n : NetId). bit_at v n.0)) c.slice-ins.ensures ∙ sym (any_shown v ins)))

pub returns-in-Nor : goal.returns-in-Nor
returns-in-Nor c =
    let v = c.args.values.now in
    let ins = c.args.gate.now.ins in
    subst (λ (k : Kind). not c.any_one-in-Nor.result ≡ gate_value k (shown v ins)) (sym c.in-Nor.is)
    (ap not (c.any_one-in-Nor.ensures ∙ (ap (list_any (λ (n : NetId). bit_at v n.0)) c.slice-ins.ensures ∙ sym (any_shown v ins))))

pub returns-in-Xor : goal.returns-in-Xor
returns-in-Xor c =
    let v = c.args.values.now in
    let ins = c.args.gate.now.ins in
    subst (λ (k : Kind). c.odd_ones.result ≡ gate_value k (shown v ins)) (sym c.in-Xor.is)
    (c.odd_ones.ensures ∙ ap (λ ns. is_odd (shown v ns)) c.slice-ins.ensures)
