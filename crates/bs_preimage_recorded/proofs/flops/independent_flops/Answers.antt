use Rattle.std.proofs.Common.{◌≡◌, ◌∙◌, ap, List, map}
use Rattle.bs_net.specs.declared.net.Flop.{Flop}
use Rattle.bs_net.specs.Netlist.{circuit}
use Rattle.bs_sim.specs.declared.mark.Mark.{Mark}
use Rattle.bs_sim.specs.Marks.{flop_mark, is_known}
use Rattle.bs_preimage_recorded.proofs.IndependentLemmas.{known_independent}
use Rattle.bs_preimage_recorded.proofs.flops.independent_flops.Goals as goal

pub returns : goal.returns
returns c =
    let it = circuit c.args.net.now in
    let flops : c.slice.result.now ≡ it.flops = c.slice.ensures ∙ ap (λ r. r.flops) c.raw-raw.ensures.parts in
    let flags : c.in_ok-flags.flags ≡ map (λ f. is_known (flop_mark c.in_ok-marks.marks.items f)) it.flops =
    c.in_ok-flags.ensures
    ∙ (ap (λ (ms : List Mark). map (λ (f : Flop). is_known (flop_mark ms f)) c.slice.result.now) c.as_slice.ensures.value
    ∙ ap (λ (fs : List Flop). map (λ (f : Flop). is_known (flop_mark c.in_ok-marks.marks.items f)) fs) flops) in
    known_independent it c.args.input c.args.value c.in_ok-marks.marks.items c.in_ok-flags.flags c.raw-raw.ensures.checked c.in_ok-marks.ensures flags
