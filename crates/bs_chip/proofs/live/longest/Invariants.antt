use Rattle.std.proofs.Common.{◌≤◌}
use Rattle.bs_stim.specs.declared.limits.TheConstants.{MAX_CYCLES}
use Rattle.bs_stim.specs.Runs.{inputs_of}
use Rattle.bs_chip.proofs.LiveLemmas.{LongestSo}
use Rattle.bs_chip.proofs.live.longest.Given as goal

abbrev pub invariant-lanes : goal.invariant-lanes
invariant-lanes l = record {
  each : LongestSo (inputs_of l.runs) l.lane l.most;
  few : l.most ≤ MAX_CYCLES;
}
