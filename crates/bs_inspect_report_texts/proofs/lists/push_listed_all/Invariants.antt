use Rattle.std.proofs.Common.{◌≡◌, ◌++◌, map, take}
use Rattle.std.specs.List.{flat_map}
use Rattle.bs_inspect_view.specs.Signals.{signal_in}
use Rattle.bs_inspect_report_texts.specs.Lists.{list_piece}
use Rattle.bs_inspect_report_texts.proofs.lists.push_listed_all.Given as goal

abbrev pub invariant-signals : goal.invariant-signals
invariant-signals l =
    l.text.items ≡ l.initial.text.items ++ flat_map (list_piece l.number l.first l.rest) (map signal_in (take l.signal-index l.flops))
