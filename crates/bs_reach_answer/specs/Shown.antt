-- The execution of an answer as a report, so that what shows the trace of a report shows it too.
use Rattle.std.specs.Prelude.{◌≡◌, ◌+◌, List, [], length, Bool, true, false, Option, Some, None, if◌then◌else◌}
use Rattle.bs_report.specs.declared.report.Report.{Report}
use Rattle.bs_report.specs.declared.report.Stop.TheVariants as stops
use Rattle.bs_reach.specs.declared.reach.Outcome.{Outcome}
use Rattle.bs_reach.specs.declared.reach.Outcome.TheVariants.{Reached, Unreached, Unknown}
use Rattle.bs_reach.specs.declared.reach.Reach.{Reach}

abbrev pub is_reached : Outcome → Bool
is_reached (Reached j) = true
is_reached Unreached = false
is_reached (Unknown j) = false

-- a report of no step, that asked for none, with the states and inputs of the answer as its trace
abbrev pub report_in : Reach → Report
report_in r = record {
  depth = 1;
  budgets = record { steps = 0; candidates = 0; conflicts = r.conflicts };
  steps = [];
  stop = stops.Reset;
  states = r.states;
  inputs = r.inputs;
  free = [];
  log = [];
}

-- the execution as such a report; none where the state is not reached
unfoldable pub execution_report : Reach → Option Report
execution_report r = if is_reached r.outcome then Some (report_in r) else None

-- the trace of a report has one state more than inputs
abbrev pub HasTrace : Report → Type 0
HasTrace report = length report.states ≡ length report.inputs + 1
