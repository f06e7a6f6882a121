use Rattle.std.proofs.Common.{◌≡◌, ◌∙◌, Bool, List, false, ap, sym, subst, length, replicate}
use Rattle.std.proofs.lemmas.List.{length-replicate}
use Rattle.bs_net.specs.Circuit.{Fits}
use Rattle.bs_net.specs.Netlist.{circuit}
use Rattle.bs_sim.proofs.simulator.Sim.new.Goals as goal

pub settle-requires : goal.settle-requires
settle-requires c = ap length c.in_ok-input.ensures ∙ (length-replicate {A = Bool} c.len.result false ∙ (c.len.ensures ∙ ap length c.data_inputs.ensures))

pub returns-clause-net : goal.returns-clause-net
returns-clause-net c = c.settle.ensures.net

pub returns-clause-state : goal.returns-clause-state
returns-clause-state c = c.settle.ensures.state ∙ (c.in_ok-state.ensures ∙ c.reset.ensures)

pub returns-clause-fits : goal.returns-clause-fits
returns-clause-fits c =
    let it = circuit c.args.net.now in
    let sim = c.settle.new.self in
    let zeros : c.in_ok-input.input ≡ replicate (length it.inputs) false =
    c.in_ok-input.ensures ∙ ap (λ n. replicate n false) (c.len.ensures ∙ ap length c.data_inputs.ensures) in
    subst (λ (x : List Bool). Fits it sim.state x sim.values) zeros
    (subst (λ (s : List Bool). Fits it s c.in_ok-input.input sim.values) (sym c.settle.ensures.state) c.settle.ensures.fits)
