use Rattle.std.proofs.Common.{◌-◌, ◌≤◌, length}
use Rattle.bs_report.specs.Step.{listed}
use Rattle.bs_audit.proofs.BlockLemmas.{AllLess, AllGreater}
use Rattle.bs_audit.proofs.blocks.place_of.Given as goal

abbrev pub invariant-halves : goal.invariant-halves
invariant-halves l = record {
  within : l.high ≤ length l.cands;
  less : AllLess (listed l.cands) l.state l.low;
  greater : AllGreater (listed l.cands) l.state l.high;
}

abbrev pub decreases-halves : goal.decreases-halves
decreases-halves l = l.high - l.low
