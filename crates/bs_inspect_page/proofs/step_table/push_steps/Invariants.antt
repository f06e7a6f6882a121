use Rattle.std.proofs.Common.{◌≡◌, ◌++◌}
use Rattle.std.specs.List.{flat_map, range_with_len}
use Rattle.bs_inspect_page.specs.Steps.{step_at}
use Rattle.bs_inspect_page.proofs.step_table.push_steps.Given as goal

abbrev pub invariant-steps : goal.invariant-steps
invariant-steps l = l.text.items ≡ l.initial.text.items ++ flat_map (step_at l.report l.lemmas) (range_with_len 0 l.i)
