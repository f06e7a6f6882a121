use Rattle.std.proofs.Common.{◌≡◌, ◌∙◌, ap}
use Rattle.bs_net.specs.Netlist.{circuit}
use Rattle.bs_inspect_causes.proofs.SourceLemmas.{sources_are, sources_real}
use Rattle.bs_inspect_causes.proofs.facts.sources_at.Goals as goal

pub returns-clause-are : goal.returns-clause-are
returns-clause-are c =
    let m = c.args.basis.now.scene.now.moments.now in
    let nets : c.slice-2.result.now ≡ (circuit m.net).inputs =
    c.slice-2.ensures ∙ (c.data_inputs.ensures ∙ ap (λ n. (circuit n).inputs) c.net-net.ensures) in
    sources_are m c.args.basis.now.drivers.now c.args.cycle c.slice.result.now c.slice-2.result.now c.in_ok-facts.facts c.in_ok-inputs.inputs c.append.new.self
    c.requires.ready c.requires.early c.slice.ensures nets c.in_ok-facts.ensures c.in_ok-inputs.ensures c.in_ok-append.ensures.ok

pub returns-clause-real : goal.returns-clause-real
returns-clause-real c =
    sources_real c.args.basis.now.scene.now.moments.now c.slice.result.now c.slice-2.result.now c.args.cycle c.in_ok-facts.facts c.in_ok-inputs.inputs c.append.new.self
    c.in_ok-facts.ensures c.in_ok-inputs.ensures c.in_ok-append.ensures.ok
