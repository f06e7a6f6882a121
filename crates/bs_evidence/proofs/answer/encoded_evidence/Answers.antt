use Rattle.std.proofs.Common.{List, subst}
use Rattle.bs_net.specs.Circuit.{reset_state}
use Rattle.bs_net.specs.Netlist.{circuit}
use Rattle.std.specs.Prelude.{Bool}
use Rattle.bs_encode.specs.Encoded.{Encoded}
use Rattle.bs_evidence.specs.Evidence.{IsLogEvidence}
use Rattle.bs_reach_unrolled.specs.Unrolled.{reach_problem}
use Rattle.bs_evidence.proofs.answer.encoded_evidence.Goals as goal

pub returns : goal.returns
returns c =
    subst (λ (e : Encoded). IsLogEvidence c.args.kind (reach_problem e (reset_state (circuit c.args.net.now)) c.args.k c.args.state.now c.args.count)
    c.args.log.now c.args.asked c.in_ok-evidence.evidence) c.requires.encoded
    (subst (λ (reset : List Bool). IsLogEvidence c.args.kind (reach_problem c.args.encoding.now reset c.args.k c.args.state.now c.args.count)
    c.args.log.now c.args.asked c.in_ok-evidence.evidence) c.reset.ensures c.in_ok-evidence.ensures)
