use Rattle.bs_net.specs.Netlist.{circuit}
use Rattle.bs_evidence.proofs.ProblemLemmas.{missing_some}
use Rattle.bs_evidence.proofs.evidence.missing.Goals as goal

pub returns-in-Some : goal.returns-in-Some
returns-in-Some c =
    missing_some (circuit c.args.net.now) c.args.choice.now c.args.report.now c.args.asked c.unfit.result c.in-Some.flaw c.in-Some.is c.unfit.ensures
