use Rattle.std.proofs.Common.{take}
use Rattle.std.specs.Prelude.{All, IsTrue}
use Rattle.bs_evidence.specs.Evidence.{is_fit}
use Rattle.bs_evidence.proofs.fits.misfit.Given as goal

abbrev pub invariant-steps : goal.invariant-steps
invariant-steps l = All (λ step. IsTrue (is_fit l.flops l.items l.depth step)) (take l.i l.steps)
