use Rattle.bs_chip.proofs.ParityLemmas.{parity_more}
use Rattle.bs_preimage_recorded.proofs.groups.group_word.Goals as goal

pub places-preserved : goal.places-preserved
places-preserved c =
    parity_more c.args.group.now c.args.planes.now c.args.wide c.args.word c.places.parity c.places.place-index c.places-test.true c.requires.word
    c.places.invariant
