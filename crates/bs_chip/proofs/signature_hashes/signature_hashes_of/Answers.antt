use Rattle.bs_chip.proofs.SignatureHashLemmas.{have_signature_hashes}
use Rattle.bs_chip.proofs.signature_hashes.signature_hashes_of.Goals as goal

pub returns-clause-signature_hashes : goal.returns-clause-signature_hashes
returns-clause-signature_hashes c =
    have_signature_hashes c.args.pass.now c.args.choice.now c.planes.result.now c.put_parities.new.items.items c.as_slice.result.now c.in_ok-signature_hashes.signature_hashes
    c.wide-wide.result _ c.items.result c.count.result c.depth-depth.ensures.sound c.requires.width c.wide-wide.ensures.value c.requires.items
    c.count.ensures.room c.planes.ensures c.put_parities.ensures.parities c.as_slice.ensures.value c.items.ensures.count c.count.ensures.count
    c.in_ok-signature_hashes.ensures
