use Rattle.bs_net.specs.Netlist.{circuit}
use Rattle.bs_evidence.proofs.ListLemmas.{proofs_right}
use Rattle.bs_evidence.proofs.law.report_proofs_are_right.Goals as goal

pub returns : goal.returns
returns c = proofs_right (circuit c.args.net.now) c.args.choice.now c.encodings_are_tidy.ensures
