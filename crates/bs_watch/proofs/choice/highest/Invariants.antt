use Rattle.std.proofs.Common.{◌≤◌, ◌<◌, ◌-◌, map, length}
use Rattle.bs_arena.specs.Arena.{literal_of}
use Rattle.bs_watch.specs.Choice.{IsHighestOf}
use Rattle.bs_watch.proofs.choice.highest.Given as goal

abbrev pub invariant-literals : goal.invariant-literals
invariant-literals l = record {
  past : l.start < l.at;
  inside : l.at ≤ length l.codes;
  best : IsHighestOf l.trail.places (map literal_of l.codes) l.start l.at l.best;
}

abbrev pub decreases-literals : goal.decreases-literals
decreases-literals l = length l.codes - l.at
