use Rattle.std.proofs.Common.{◌≡◌, ◌≤◌, ◌+◌, length, None}
use Rattle.std.specs.Prelude.{All}
use Rattle.bs_bits.specs.Lines.{lines_of}
use Rattle.bs_stim.specs.declared.limits.TheConstants.{MAX_RUNS, MAX_TEXT}
use Rattle.bs_stim.specs.Runs.{IsRecorded}
use Rattle.bs_stim.specs.StimulusText.{rest_of}
use Rattle.bs_stim.specs.RunText.{AreShort, with_runs}
use Rattle.bs_stim.proofs.RunLemmas.{all_runs}
use Rattle.bs_stim.proofs.reading.read_runs.Given as goal

abbrev pub invariant-runs : goal.invariant-runs
invariant-runs l = record {
  whole : all_runs l.width (lines_of l.bytes) ≡ with_runs l.runs (rest_of l.width l.number (length l.runs) None (lines_of l.rest));
  behind : l.number + length (lines_of l.rest) ≡ 1 + length (lines_of l.bytes);
  short : AreShort MAX_TEXT (lines_of l.rest);
  begun : 1 + length l.runs ≤ l.number;
  unbegun : length l.runs ≡ 0 → l.number ≡ 1;
  few : length l.runs ≤ MAX_RUNS;
  recorded : All (IsRecorded l.width) l.runs;
}

abbrev pub decreases-runs : goal.decreases-runs
decreases-runs l = length (lines_of l.rest)
