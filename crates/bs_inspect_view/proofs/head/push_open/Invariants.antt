use Rattle.std.proofs.Common.{◌≡◌, ◌++◌, map, slice_get}
use Rattle.std.specs.List.{flat_map, range_with_len}
use Rattle.bs_inspect_view.specs.Signals.{signal_in}
use Rattle.bs_inspect_view.specs.View.{variable_at}
use Rattle.bs_inspect_view.proofs.head.push_open.Given as goal

abbrev pub invariant-signals : goal.invariant-signals
invariant-signals l =
    l.text.items
    ≡ l.initial.text.items
    ++ flat_map (λ k. variable_at (map signal_in l.signals) k (slice_get (map signal_in l.signals) k)) (range_with_len 0 l.i)
