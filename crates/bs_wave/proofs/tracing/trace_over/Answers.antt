use Rattle.std.proofs.Common.{◌∙◌, ap, map}
use Rattle.bs_net.specs.declared.net.Flop.{Flop}
use Rattle.bs_net.specs.Netlist.{circuit}
use Rattle.bs_net.specs.Parts.{Parts}
use Rattle.bs_wave.proofs.TraceLemmas.{states_placed, inputs_placed}
use Rattle.bs_wave.proofs.tracing.trace_over.Goals as goal

pub bits_over-requires-clause-placed : goal.bits_over-requires-clause-placed
bits_over-requires-clause-placed c =
    states_placed (circuit c.args.net.now) c.slice-2.result.now c.args.moments.now c.raw.ensures.checked
    (c.slice-2.ensures
    ∙ (c.in_ok-outputs.ensures ∙ (ap (map (λ (f : Flop). f.q)) c.slice.ensures ∙ ap (λ (r : Parts). map (λ (f : Flop). f.q) r.flops) c.raw.ensures.parts)))
    c.requires.widths

pub bits_over-requires-2-clause-placed : goal.bits_over-requires-2-clause-placed
bits_over-requires-2-clause-placed c =
    inputs_placed (circuit c.args.net.now) c.slice-3.result.now c.args.moments.now c.raw.ensures.checked
    (c.slice-3.ensures ∙ c.data_inputs.ensures) c.requires.widths
