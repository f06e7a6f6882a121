use Rattle.std.proofs.Common.{◌≡◌, ◌++◌, map}
use Rattle.std.specs.List.{flat_map, range_with_len}
use Rattle.bs_inspect_view.specs.Signals.{signal_in}
use Rattle.bs_inspect_report_texts.specs.Lists.{list_at}
use Rattle.bs_inspect_report_texts.proofs.lists.push_lists.Given as goal

abbrev pub invariant-steps : goal.invariant-steps
invariant-steps l =
    l.text.items ≡ l.initial.text.items ++ flat_map (list_at l.report l.lemmas (map signal_in l.flops)) (range_with_len 0 l.i)
