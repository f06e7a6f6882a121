use Rattle.std.proofs.Common.{◌≡◌, List, Bool, Option, None, ap, subst, sym}
use Rattle.std.specs.Prelude.{IfSome, option_map}
use Rattle.bs_report.specs.declared.report.Cand.{Cand}
use Rattle.bs_preimage.specs.Listed.{IsRightCand}
use Rattle.bs_preimage_recorded.specs.Own.{IsOwn}
use Rattle.bs_preimage_recorded.proofs.OwnLemmas.{own_is_right}
use Rattle.bs_preimage_recorded.proofs.finder.ask_moment.Goals as goal

pub returns-in-Some-clause-said : goal.returns-in-Some-clause-said
returns-in-Some-clause-said c =
    let r = c.args.chip.now.recording in
    let present = c.args.query.now.present.now in
    let stored = c.args.query.now.stored.now in
    let older : Option (List Bool) = option_map (λ bits. bits.now) c.args.query.now.older in
    let cand : Cand = c.in-Some.cand in
    let own : IsOwn r present stored c.args.run c.args.cycle cand =
    subst (λ (o : Option Cand). IfSome o (IsOwn r present stored c.args.run c.args.cycle)) c.in-Some.is c.in_ok-cand.ensures.own in
    let none : older ≡ None = subst (λ (o : Option Cand). IfSome o (λ _. older ≡ None)) c.in-Some.is c.in_ok-cand.ensures.none in (
      subst (λ (o : Option (List Bool)). IsRightCand r.circuit r.choice present stored o cand) (sym none)
          (own_is_right r present stored c.args.run c.args.cycle cand c.is_recording.ensures own),
      ap (λ (cand : Cand). cand.state) own.is,
    )
