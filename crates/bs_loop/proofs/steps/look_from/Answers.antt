use Rattle.bs_loop.proofs.HitInputLemmas.{hit_moments, looked_with, takes_with}
use Rattle.bs_loop.proofs.steps.look_from.Goals as goal

pub take_recorded-requires : goal.take_recorded-requires
take_recorded-requires c =
    rw c.meet_from.ensures.chip
    (hit_moments c.args.chip.now.recording c.args.now.now c.args.stored.now c.in_ok-listing.field-0.listing c.in_ok-listing.field-0.hit
    c.in_ok-listing.ensures.back.back.line)

pub returns-clause-back : goal.returns-clause-back
returns-clause-back c =
    looked_with c.args.chip.now.recording c.args.budgets.now c.args.preimage.now c.meet_from.new.preimage c.args.now.now c.args.stored.now c.args.at
    c.in_ok-listing.field-0.listing c.in_ok-with_input.with_input c.in_ok-listing.field-0.hit c.in_ok-listing.field-0.reach c.is_recording.ensures c.requires.circuit
    c.in_ok-listing.ensures.back c.in_ok-with_input.ensures.end (rw c.meet_from.ensures.chip at c.in_ok-with_input.ensures.cands)

pub returns-clause-takes : goal.returns-clause-takes
returns-clause-takes c =
    takes_with c.args.chip.now.recording c.args.budgets.now c.args.preimage.now c.meet_from.new.preimage c.args.now.now c.args.stored.now c.args.at
    c.in_ok-listing.field-0.listing c.in_ok-with_input.with_input c.in_ok-listing.field-0.hit c.in_ok-listing.field-0.reach c.in_ok-listing.ensures.back
    c.in_ok-with_input.ensures.end (rw c.meet_from.ensures.chip at c.in_ok-with_input.ensures.cands)
