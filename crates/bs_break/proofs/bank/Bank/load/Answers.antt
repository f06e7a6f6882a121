use Rattle.std.proofs.Common.{◌≡◌, ◌∙◌, length, map}
use Rattle.std.proofs.lemmas.List.Elements.{All-map}
use Rattle.bs_break.proofs.PlaceLemmas.{shared_places, other_places}
use Rattle.bs_break.proofs.bank.Bank.load.Goals as goal

pub invariant_of-result : goal.invariant_of-result
invariant_of-result g c =
    let states = map g.S.HasState.shown c.args.states.now in
    record {
      widths = All-map (λ s. length s ≡ c.args.width) g.S.HasState.shown c.args.states.now c.requires;
      shared_are =
          shared_places states c.args.width c.as_slice.result.now c.in_ok-shared.shared.items (c.as_slice.ensures.value ∙ c.in_ok-flags.ensures)
          c.in_ok-shared.ensures;
      others_are =
          other_places states c.args.width c.as_slice-2.result.now c.in_ok-others.others.items (c.as_slice-2.ensures.value ∙ c.in_ok-flags.ensures)
          c.in_ok-others.ensures;
    }
