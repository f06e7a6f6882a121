use Rattle.std.proofs.Common.{◌≡◌, false, subst}
use Rattle.bs_log.specs.Refusal.{history_of}
use Rattle.bs_log.specs.Lean.{StepsLeaveKept}
use Rattle.bs_preimage.specs.Preimage.{PreimageState}
use Rattle.bs_preimage.proofs.preimage.Preimage.into_log.Goals as goal

-- src/preimage.rt:151:5
pub returns-clause-steps : goal.returns-clause-steps
returns-clause-steps c =
    subst (λ (s : PreimageState). s.failed ≡ false → StepsLeaveKept s.problem (history_of c.into_log.result)) c.self.view_is
    (λ fine. c.into_log.ensures.steps (c.self.invariant.rest fine).well)
