use Rattle.std.proofs.Common.{◌≡◌, ◌≤◌, ◌+◌, ◌++◌, reverse, take}
use Rattle.std.specs.List.{flat_map}
use Rattle.bs_log.specs.History.{step_of}
use Rattle.bs_log.specs.Refusal.{history_of}
use Rattle.bs_log.specs.Refutation.{blocks_of}
use Rattle.bs_log.specs.Clauses.{clause_text}
use Rattle.bs_log.proofs.cnf.push_blocks.Given as goal

abbrev pub invariant-lines : goal.invariant-lines
invariant-lines l = record {
  ended : l.ended + 1 ≡ step_of (history_of (take l.i l.lines));
  text : l.text.items ≡ l.initial.text.items ++ flat_map clause_text (reverse (blocks_of (history_of (take l.i l.lines)) l.step));
  low : l.ended ≤ l.i;
}
