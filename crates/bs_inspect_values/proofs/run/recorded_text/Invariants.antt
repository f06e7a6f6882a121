use Rattle.std.proofs.Common.{◌≡◌, map, take}
use Rattle.bs_inspect_values.specs.SimulatedRun.{recorded_in, runs_text}
use Rattle.bs_inspect_values.proofs.run.recorded_text.Given as goal

abbrev pub invariant-runs : goal.invariant-runs
invariant-runs l = l.text.items ≡ runs_text (map recorded_in (take l.run-index l.runs))
