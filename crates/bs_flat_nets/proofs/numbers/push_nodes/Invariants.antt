use Rattle.std.proofs.Common.{take, length}
use Rattle.bs_flat_meaning.specs.Design.{paths}
use Rattle.bs_flat_nets.specs.Blocks.{design_of}
use Rattle.bs_flat_nets.specs.Free.{free_of}
use Rattle.bs_flat_nets.specs.Tally.{IsTally}
use Rattle.bs_flat_nets.proofs.RiseLemmas.{AreUpTo}
use Rattle.bs_flat_nets.proofs.TallyLemmas.{Placed}
use Rattle.bs_flat_nets.proofs.numbers.push_nodes.Given as goal

abbrev pub invariant-nodes : goal.invariant-nodes
invariant-nodes l = record {
  nets : IsTally (design_of l.blocks l._top) (free_of (design_of l.blocks l._top) (take l.at (paths (design_of l.blocks l._top)))) l.tally;
  placed : Placed (length l.nodes) l.tally;
  by_node : AreUpTo l.tally.places l.starts l.at;
}
