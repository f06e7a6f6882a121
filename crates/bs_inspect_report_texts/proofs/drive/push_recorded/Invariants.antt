use Rattle.std.proofs.Common.{◌≡◌, ◌++◌, take}
use Rattle.bs_stim.specs.Runs.{inputs_of}
use Rattle.bs_scan.specs.Moments.{run_of}
use Rattle.bs_inspect_report_texts.proofs.drive.push_recorded.Given as goal

abbrev pub invariant-cycles : goal.invariant-cycles
invariant-cycles l = l.into ≡ l.initial.into ++ take l.cycle (run_of (inputs_of l.runs) l.m.run)
