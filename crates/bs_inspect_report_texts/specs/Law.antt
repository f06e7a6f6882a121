-- Which reports have a test bench.
use Rattle.std.specs.Prelude.{◌≢◌, List, []}
use Rattle.bs_net.specs.Circuit.{Circuit}
use Rattle.bs_scan.specs.Crash.{Crash, IsCrash}
use Rattle.bs_scan.specs.Moments.{Run}
use Rattle.bs_report.specs.declared.report.Report.{Report}
use Rattle.bs_report.specs.Good.{IsGood}
use Rattle.bs_inspect_report_texts.specs.Driven.{GoesOn, IsThere, begin_of, cycles_before, driven}

-- the runs have the moment at which the trace begins, and the netlist goes through the trace under what is driven
pub record HasBench (c : Circuit) (runs : List Run) (r : Report) : Type 0 where
  pub begins : IsThere runs (begin_of r)
  pub through : GoesOn c (driven runs r) (cycles_before (begin_of r)) r.states

-- a good report with a trace of one step or more, beside the netlist and the runs that it is of
abbrev pub GoodReportsHaveBenches : Type 0
GoodReportsHaveBenches = (crash : Crash) (r : Report) → IsCrash crash → IsGood crash r → r.inputs ≢ [] → HasBench crash.circuit crash.runs r
