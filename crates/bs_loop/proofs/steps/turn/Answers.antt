use Rattle.std.proofs.Common.{◌≡◌, ◌∷◌, rules}
use Rattle.std.specs.Option.{option_to_list}
use Rattle.bs_scan.specs.Dump.{signatures_of}
use Rattle.bs_loop.proofs.TurnLemmas.{turned}
use Rattle.bs_loop.proofs.SearchedLemmas.{step_hits, turn_searched}
use Rattle.bs_loop.proofs.steps.turn.Goals as goal

pub returns-clause-turn : goal.returns-clause-turn
returns-clause-turn c =
    let held : signatures_of c.args.now.now ≡ c.in_ok-stored-in-Some.stored ∷ option_to_list c.args.now.now.older = search rules in
    turned c.args.chip.now.recording c.args.budgets.now c.args.steps.now c.advance.new.steps c.args.preimage.now c.look_from.new.preimage
    c.args.now.now c.advance.new.now c.args.at.now c.advance.new.at
    c.in_ok-stored-in-Some.stored c.in_ok-listing.field-0.listing c.in_ok-step.step c.in_ok-listing.field-0.reach c.in_ok-listing.field-0.hit c.advance.result
    held c.in_ok-listing.ensures.back c.in_ok-step.ensures c.in_ok-listing.ensures.takes c.advance.ensures.steps c.advance.ensures.stop

pub returns-clause-searched : goal.returns-clause-searched
returns-clause-searched c =
    turn_searched c.args.chip.now.recording c.args.budgets.now.conflicts c.args.steps.now c.advance.new.steps c.args.searched.now c.advance.new.searched c.in_ok-step.step
    c.in_ok-listing.field-0.reach c.advance.result c.advance.ensures.steps c.advance.ensures.searched
    (step_hits c.args.chip.now.recording c.args.budgets.now c.args.preimage.now c.look_from.new.preimage c.args.now.now c.in_ok-stored-in-Some.stored
    c.args.at.now c.in_ok-listing.field-0.listing c.in_ok-listing.field-0.hit c.in_ok-listing.field-0.reach c.in_ok-step.step c.requires.circuit
    c.requires.choice c.in_ok-listing.ensures.back c.in_ok-step.ensures)
