use Rattle.std.proofs.Common.{◌≡◌, ◌++◌, map, slice_get}
use Rattle.std.specs.List.{flat_map, range_with_len}
use Rattle.std.specs.Option.{option_map}
use Rattle.bs_inspect_view.specs.Signals.{signal_in}
use Rattle.bs_inspect_view.specs.View.{change_at}
use Rattle.bs_inspect_view.proofs.value.push_changes.Given as goal

abbrev pub invariant-signals : goal.invariant-signals
invariant-signals l =
    l.text.items
    ≡ l.initial.text.items
    ++ flat_map (λ k. change_at (option_map (λ b. b.now) l.before) l.now k (slice_get (map signal_in l.signals) k)) (range_with_len 0 l.i)
