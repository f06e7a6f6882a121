use Rattle.bs_chip.proofs.SignatureHashLemmas.{brought_signed, signed_back}
use Rattle.bs_chip.proofs.signature_hashes.advance_by.Goals as goal

pub advance-requires-clause-signature_hashed : goal.advance-requires-clause-signature_hashed
advance-requires-clause-signature_hashed c =
    brought_signed c.args.pass.now c.lend.new.pass c.args.choice.now c.args.signature_hashes.now c.len.result c.requires.signature_hashed c.lend.ensures.same c.len.ensures
    c.lend.ensures.there

pub returns-clause-signature_hashed : goal.returns-clause-signature_hashed
returns-clause-signature_hashed c =
    signed_back c.args.pass.now c.lend.new.pass c.advance.new.pass c.args.choice.now c.advance.new.signature_hashes c.lend.ensures.same c.advance.ensures.signature_hashed
