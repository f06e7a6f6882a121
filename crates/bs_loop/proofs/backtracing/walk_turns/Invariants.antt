use Rattle.std.proofs.Common.{◌≡◌}
use Rattle.bs_loop.specs.Searched.{AreSearched}
use Rattle.bs_loop.specs.Way.{IsUnderWay}
use Rattle.bs_loop.proofs.backtracing.walk_turns.Given as goal

abbrev pub invariant-turns : goal.invariant-turns
invariant-turns l = record {
  chip : l.chip.recording ≡ l.fn.chip.recording;
  finder : l.finder.recording ≡ l.fn.finder.recording;
  searched : AreSearched l.fn.chip.recording l.budgets.conflicts l.steps l.searched;
  way : IsUnderWay l.fn.chip.recording l.dump l.budgets l.steps l.preimage l.now l.at l.counter;
}
