use Rattle.std.proofs.Common.{◌≡◌, drop, Some}
use Rattle.std.specs.Prelude.{option_map}
use Rattle.bs_report.specs.Chain.{last_present}
use Rattle.bs_scan.specs.Present.{present_in}
use Rattle.bs_audit.specs.Following.{first_from}
use Rattle.bs_audit.proofs.replay.Replay.walk.Given as goal

abbrev pub invariant-steps : goal.invariant-steps
invariant-steps l = record {
  kept : l.self ≡ l.initial.self;
  rest : first_from l.initial.self l.report.budgets 0 (Some (present_in l.initial.self.dump)) l.report.steps
      ≡ first_from l.initial.self l.report.budgets l.i (option_map present_in l.due) (drop l.i l.report.steps);
  last : last_present l.initial.self (Some (present_in l.initial.self.dump)) l.report.steps
      ≡ last_present l.initial.self (option_map present_in l.due) (drop l.i l.report.steps);
}
