use Rattle.std.proofs.Common.{◌≤◌, length}
use Rattle.bs_flat_meaning.specs.Paths.{AddsFirst, AreWithin}
use Rattle.bs_flat_meaning.proofs.paths.+add_below.Given as goal

abbrev pub decreases-add_below : goal.decreases-add_below
decreases-add_below l = l.levels

abbrev pub invariant-instances : goal.invariant-instances
invariant-instances l = record {
  within : AreWithin l.modules l.nodes;
  longer : length l.initial.nodes ≤ length l.nodes;
  adds : AddsFirst l.modules l.initial.nodes l.nodes l.at l.levels l.i;
}
