use Rattle.std.proofs.Common.{◌<◌, ◌^◌, ap, sym, subst, map, rules, ◌∙◌, length, List}
use Rattle.std.specs.List.{All}
use Rattle.std.proofs.lemmas.Fn.{filter_same}
use Rattle.std.proofs.lemmas.List.Elements.{All-filter}
use Rattle.bs_inspect_view.specs.declared.signal.Signal.{Signal as CodeSignal}
use Rattle.bs_inspect_view.specs.Signals.{signal_in}
use Rattle.bs_inspect_page.specs.Page.{asked_in, is_listed}
use Rattle.bs_inspect_page.proofs.DrawnLemmas.{filter_in}
use Rattle.bs_inspect_page.proofs.listing.keep_listed.Goals as goal

pub returns-clause-are : goal.returns-clause-are
returns-clause-are c =
    ap (λ (xs : List CodeSignal). map signal_in xs)
    (filter_same _ (λ s. is_listed (asked_in c.args.asked.now) c.args.alone c.args.differing.now (signal_in s)) _ (λ x b f' k. search rules) _ _ c.retain.ensures.filtered)
    ∙ filter_in (λ s. is_listed (asked_in c.args.asked.now) c.args.alone c.args.differing.now s) c.args.signals.now.items

pub returns-clause-few : goal.returns-clause-few
returns-clause-few c =
    subst (λ (xs : List CodeSignal). All (λ s. length s.places < 2 ^ 32) xs)
    (sym (filter_same _ (λ s. is_listed (asked_in c.args.asked.now) c.args.alone c.args.differing.now (signal_in s)) _ (λ x b f' k. search rules) _ _ c.retain.ensures.filtered))
    (All-filter (λ s. is_listed (asked_in c.args.asked.now) c.args.alone c.args.differing.now (signal_in s)) (λ s. length s.places < 2 ^ 32) c.args.signals.now.items c.requires)
