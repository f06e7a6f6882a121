use Rattle.std.proofs.Common.{◌≡◌, take}
use Rattle.bs_log.specs.History.{Problem, state_of}
use Rattle.bs_rup.specs.Problem.{meaning}
use Rattle.bs_log.specs.Refusal.{history_of, NoneRefused}
use Rattle.bs_rup.proofs.verdict.verdict_from.Given as goal

abbrev pub invariant-loop-i : goal.invariant-loop-i
invariant-loop-i l =
    let p : Problem = meaning l.fn.problem in
    record {
      state : l.state ≡ state_of p (history_of (take l.i l.lines));
      right : NoneRefused p (history_of (take l.i l.lines));
    }
