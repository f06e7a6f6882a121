use Rattle.std.proofs.Common.{◌≡◌, ◌-◌, length}
use Rattle.bs_report.specs.Valid.{first_of_all}
use Rattle.bs_audit.specs.Following.{cand_parts}
use Rattle.bs_audit.proofs.replay.Replay.wrong_candidate.Given as goal

abbrev pub invariant-cands : goal.invariant-cands
invariant-cands l = record {
  kept : l.self ≡ l.initial.self;
  rest : first_of_all (cand_parts l.initial.self l.budgets l.i l.step 0 (length l.step.cands))
      ≡ first_of_all (cand_parts l.initial.self l.budgets l.i l.step l.j (length l.step.cands - l.j));
}
