use Rattle.std.proofs.Common.{◌+◌, List, subst, sym, ◌∙◌}
use Rattle.std.specs.Prelude.{All, IsTrue}
use Rattle.std.proofs.lemmas.List.{take_all}
use Rattle.bs_report.specs.declared.report.Step.{Step}
use Rattle.bs_evidence.specs.Evidence.{is_fit}
use Rattle.bs_evidence.proofs.FitLemmas.{fits_more, misfit_at}
use Rattle.bs_evidence.proofs.fits.misfit.Goals as goal

pub returns-in-Some : goal.returns-in-Some
returns-in-Some c =
    misfit_at c.args.flops c.args.items c.args.depth c.args.steps.now c.steps.i c.index-steps-i.result c.in-Some.flaw c.steps-test.true c.index-steps-i.is
    (sym c.misfit_of.ensures ∙ c.in-Some.is)

pub steps-preserved : goal.steps-preserved
steps-preserved c =
    fits_more c.args.flops c.args.items c.args.depth (c.steps.i + 1) c.args.steps.now c.steps.i c.index-steps-i.result c.steps-test.true c.index-steps-i.is
    c.steps.invariant (sym c.misfit_of.ensures ∙ c.in-None.is)

pub returns : goal.returns
returns c =
    subst (λ (ss : List Step). All (λ step. IsTrue (is_fit c.args.flops c.args.items c.args.depth step)) ss)
    (take_all c.steps.i c.args.steps.now c.steps-test.false) c.steps.invariant
