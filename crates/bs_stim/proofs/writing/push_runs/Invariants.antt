use Rattle.std.proofs.Common.{◌≡◌, ◌++◌, take}
use Rattle.std.specs.List.{flat_map}
use Rattle.bs_stim.specs.StimulusText.{run_text}
use Rattle.bs_stim.proofs.writing.push_runs.Given as goal

abbrev pub invariant-runs : goal.invariant-runs
invariant-runs l = l.into.items ≡ l.initial.into.items ++ flat_map run_text (take l.run-index l.runs)
