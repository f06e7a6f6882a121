use Rattle.std.proofs.Common.{subst, sym}
use Rattle.bs_loop.specs.declared.known.KnownCand.{KnownCand}
use Rattle.bs_loop.specs.KnownCand.{IsKnown}
use Rattle.bs_loop.proofs.KnownLemmas.{is_known}
use Rattle.bs_loop.proofs.known.known_for.Goals as goal

pub returns-clause-known : goal.returns-clause-known
returns-clause-known c =
    let r = c.args.chip.now.recording in
    subst (λ (k : KnownCand). IsKnown r c.args.now.now c.args.stored.now c.args.b c.args.at k.cand k.answer)
    (sym (rw c.seek.ensures.chip at c.in_ok-known.ensures.known))
    (is_known r c.args.now.now c.args.stored.now c.args.b c.args.at c.in_ok-sought.sought c.is_recording.ensures c.requires.at c.requires.stored
    c.in_ok-sought.ensures.sought c.in_ok-sought.ensures.cut)
