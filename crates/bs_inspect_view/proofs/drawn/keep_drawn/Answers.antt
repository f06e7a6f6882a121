use Rattle.std.proofs.Common.{ap, map, rules, ◌∙◌, List}
use Rattle.std.proofs.lemmas.Fn.{filter_same}
use Rattle.bs_inspect_view.specs.declared.signal.Signal.{Signal as CodeSignal}
use Rattle.bs_inspect_view.specs.Signals.{signal_in}
use Rattle.bs_inspect_view.specs.Drawn.{asked_in, is_drawn}
use Rattle.bs_inspect_view.proofs.DrawnLemmas.{filter_in}
use Rattle.bs_inspect_view.proofs.drawn.keep_drawn.Goals as goal

pub returns : goal.returns
returns c =
    ap (λ (xs : List CodeSignal). map signal_in xs)
    (filter_same _ (λ s. is_drawn (asked_in c.args.asked.now) s.base.now) _ (λ x b f' k. search rules) _ _ c.retain.ensures.filtered)
    ∙ filter_in (λ s. is_drawn (asked_in c.args.asked.now) s.base) c.args.signals.now.items
