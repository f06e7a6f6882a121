use Rattle.bs_chip.proofs.ParityLemmas.{parity_more}
use Rattle.bs_chip.proofs.parities.item_word.Goals as goal

pub flops-preserved : goal.flops-preserved
flops-preserved c =
    parity_more c.args.item.now c.args.planes.now c.args.wide c.args.word c.flops.parity c.flops.flop-index c.flops-test.true c.requires.word
    c.flops.invariant
