use Rattle.std.proofs.Common.{◌≡◌, take, length, List}
use Rattle.std.specs.List.{All}
use Rattle.bs_wave.specs.declared.value.Value.{Value}
use Rattle.bs_rows_chip.proofs.wave_rows.are_full.Given as goal

abbrev pub invariant-moments : goal.invariant-moments
invariant-moments l = All (λ (values : List Value). length values ≡ l.count) (take l.values-index l.moments)
