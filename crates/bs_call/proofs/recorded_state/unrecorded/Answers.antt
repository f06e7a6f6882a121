use Rattle.std.proofs.Common.{◌≡◌, ◌∙◌, ap, subst}
use Rattle.std.specs.Prelude.{option_map, IfSome}
use Rattle.bs_scan.specs.Crash.{dump_at}
use Rattle.bs_scan.specs.Moments.{moment}
use Rattle.bs_call.proofs.LookLemmas.{turned_hit}
use Rattle.bs_call.proofs.recorded_state.unrecorded.Goals as goal

pub returns-in-Some-clause-text : goal.returns-in-Some-clause-text
returns-in-Some-clause-text c =
    turned_hit c.args.chip.now.recording c.args.dump.now c.args.said.now c.in_ok-state.state (moment c.in-Some.hit.run c.in-Some.hit.cycle)
    c.in-Some.hit.dump _ c.in_ok-state.ensures
    (c.in_ok-hit.ensures.first ∙ ap (option_map (λ hit. moment hit.run hit.cycle)) c.in-Some.is)
    (subst (λ o. IfSome o (λ hit. hit.dump ≡ dump_at c.args.chip.now.recording (moment hit.run hit.cycle))) c.in-Some.is c.in_ok-hit.ensures.dump)
    c.turned_at.ensures
