use Rattle.std.proofs.Common.{◌≡◌, ◌∙◌, length}
use Rattle.bs_chip.specs.SignatureHashes.{recorded_by}
use Rattle.bs_chip.proofs.SignatureHashLemmas.{have_same, still_signed, pushed_signed}
use Rattle.bs_chip.proofs.signature_hashes.advance.Goals as goal

pub returns-clause-signature_hashed : goal.returns-clause-signature_hashed
returns-clause-signature_hashed c =
    let old = c.args.pass.now in
    let p = c.step_to.new.pass in
    let r = recorded_by old c.args.choice.now in
    let there : p.cycle ≡ length c.args.signature_hashes.now = c.step_to.ensures.there ∙ c.len.ensures in
    pushed_signed r p c.args.signature_hashes.now c.push.new.self c.in_ok-next.next c.push.result
    (still_signed r old p c.args.signature_hashes.now c.requires.signature_hashed c.step_to.ensures.same there) there
    (have_same old p c.args.choice.now c.in_ok-next.next c.step_to.ensures.same c.in_ok-next.ensures.signature_hashes) c.push.ensures.ok c.push.ensures.err
