use Rattle.std.proofs.Common.{subst}
use Rattle.bs_net.specs.Netlist.{circuit}
use Rattle.bs_evidence.specs.Evidence.{HasAsked, IsMissing}
use Rattle.bs_evidence.proofs.ProblemLemmas.{asked_shown}
use Rattle.bs_evidence.proofs.evidence.evidence.Goals as goal

pub report_evidence-requires : goal.report_evidence-requires
report_evidence-requires c =
    let there : HasAsked (circuit c.args.net.now) c.args.choice.now c.args.report.now c.args.asked =
    subst (IsMissing (circuit c.args.net.now) c.args.choice.now c.args.report.now c.args.asked) c.in-None.is c.missing.ensures in
    record { choice = c.requires.choice; few = c.requires.few; fits = there.fits; there = there.there }

pub returns-in-None : goal.returns-in-None
returns-in-None c =
    asked_shown c.args.kind (circuit c.args.net.now) c.args.choice.now c.args.report.now c.args.asked c.report_evidence.result
    (subst (IsMissing (circuit c.args.net.now) c.args.choice.now c.args.report.now c.args.asked) c.in-None.is c.missing.ensures) c.report_evidence.ensures
