use Rattle.std.proofs.Common.{◌≡◌, ◌∙◌, ap, List, map, false, length, ◌<◌, subst, sym, ℕ}
use Rattle.std.specs.List.{All}
use Rattle.std.proofs.lemmas.List.{length-replicate}
use Rattle.bs_net.specs.declared.net.NetId.{NetId}
use Rattle.bs_net.specs.declared.net.Flop.{Flop}
use Rattle.bs_net.specs.declared.net.Const.{Const}
use Rattle.bs_net.specs.Netlist.{circuit}
use Rattle.bs_net.specs.Steps.{run, puts, constant_step}
use Rattle.bs_net.proofs.NetlistLemmas.{without_placed}
use Rattle.bs_sim.proofs.SourceLemmas.{sources_show}
use Rattle.bs_sim.proofs.schedule.show_sources.Goals as goal

pub show_nets-requires-clause-placed : goal.show_nets-requires-clause-placed
show_nets-requires-clause-placed c =
    let nets : c.slice.result.now ≡ (circuit c.args.net.now).inputs = c.slice.ensures ∙ c.data_inputs.ensures in
    let len : length c.args.values.now ≡ (circuit c.args.net.now).nets = ap length c.requires.zeros ∙ length-replicate _ false in
    let P : List NetId → Type 0 = λ ns. All (λ (n : NetId). n.0 < length c.args.values.now) ns in
    let Q : ℕ → Type 0 = λ m. All (λ (n : NetId). n.0 < m) (circuit c.args.net.now).inputs in
    subst P (sym nets) (subst Q (sym len) (without_placed _ _ _ c.raw-raw.ensures.placed.inputs.1))

pub returns : goal.returns
returns c =
    let inputs : c.slice.result.now ≡ (circuit c.args.net.now).inputs = c.slice.ensures ∙ c.data_inputs.ensures in
    let flops : c.slice-2.result.now ≡ (circuit c.args.net.now).flops = c.slice-2.ensures ∙ ap (λ r. r.flops) c.raw-raw.ensures.parts in
    let consts : c.slice-3.result.now ≡ (circuit c.args.net.now).constants = c.slice-3.ensures ∙ ap (λ r. r.consts) c.raw-raw.ensures.parts in
    let shows =
    sources_show (circuit c.args.net.now) c.args.state.now c.args.input.now _ _ _ c.raw-raw.ensures.checked c.requires.state_fits c.requires.input_fits
    (c.show_nets.ensures ∙ (ap (λ (ns : List NetId). run (puts ns c.args.input.now) c.args.values.now) inputs
    ∙ ap (run (puts (circuit c.args.net.now).inputs c.args.input.now)) c.requires.zeros))
    (c.show_state.ensures ∙ ap (λ (fs : List Flop). run (puts (map (λ (f : Flop). f.q) fs) c.args.state.now) c.show_nets.new.values) flops)
    (c.show_constants.ensures ∙ ap (λ (ks : List Const). run (map constant_step ks) c.show_state.new.values) consts) in
    record { shows = shows.0; outputs = shows.1 }
