use Rattle.std.proofs.Common.{subst, ◌∙◌}
use Rattle.bs_scan.specs.Crash.{Recording}
use Rattle.bs_loop.specs.Searched.{AreSearched, IsTurnSearched}
use Rattle.bs_loop.specs.Turn.{HasStepped, HasStopped}
use Rattle.bs_loop.proofs.SearchedLemmas.{searched_more}
use Rattle.bs_loop.proofs.WayLemmas.{stepped, stopped}
use Rattle.bs_loop.proofs.backtracing.walk_turns.Goals as goal

pub returns-in-Some : goal.returns-in-Some
returns-in-Some c =
    let reaches : AreSearched c.args.chip.now.recording c.args.budgets.now.conflicts c.turn.new.steps c.turn.new.searched =
    searched_more c.args.chip.now.recording c.args.budgets.now.conflicts c.turns.steps c.turn.new.steps c.turns.searched c.turn.new.searched c.turns.invariant.searched
    (subst (λ (k : Recording). IsTurnSearched k c.args.budgets.now.conflicts c.turns.steps c.turn.new.steps c.turns.searched c.turn.new.searched) c.turns.invariant.chip
    c.in_ok-stop.ensures.searched) in
    let made =
    stopped c.args.chip.now.recording c.args.dump.now c.args.budgets.now c.turns.steps c.turn.new.steps c.turns.preimage c.turn.new.preimage c.turns.now
    c.turns.at c.turns.counter c.in-Some.stop
    c.turns.invariant.way c.turns-test.true
    (subst (λ (k : Recording). HasStopped k c.args.budgets.now c.turns.steps c.turn.new.steps c.turns.preimage c.turn.new.preimage c.turns.now
    c.turns.at c.in-Some.stop) c.turns.invariant.chip
    (rw c.in-Some.is at c.in_ok-stop.ensures.turn)) in
    record { searched = reaches; made = made.made; few = made.few; stop = made.cause; chip = c.in_ok-stop.ensures.chip ∙ c.turns.invariant.chip }

pub turns-preserved : goal.turns-preserved
turns-preserved c =
    let reaches : AreSearched c.args.chip.now.recording c.args.budgets.now.conflicts c.turn.new.steps c.turn.new.searched =
    searched_more c.args.chip.now.recording c.args.budgets.now.conflicts c.turns.steps c.turn.new.steps c.turns.searched c.turn.new.searched c.turns.invariant.searched
    (subst (λ (k : Recording). IsTurnSearched k c.args.budgets.now.conflicts c.turns.steps c.turn.new.steps c.turns.searched c.turn.new.searched) c.turns.invariant.chip
    c.in_ok-stop.ensures.searched) in
    record {
      searched = reaches;
      chip = c.in_ok-stop.ensures.chip ∙ c.turns.invariant.chip;
      finder = c.in_ok-stop.ensures.finder ∙ c.turns.invariant.finder;
      way =
          stepped c.args.chip.now.recording c.args.dump.now c.args.budgets.now c.turns.steps c.turn.new.steps c.turns.preimage c.turn.new.preimage c.turns.now
          c.turn.new.now c.turns.at c.turn.new.at c.turns.counter
          c.turns.invariant.way
          (subst (λ (k : Recording). HasStepped k c.args.budgets.now c.turns.steps c.turn.new.steps c.turns.preimage c.turn.new.preimage c.turns.now
          c.turn.new.now c.turns.at c.turn.new.at) c.turns.invariant.chip
          (rw c.in-None.is at c.in_ok-stop.ensures.turn));
    }
