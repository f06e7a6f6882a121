use Rattle.std.proofs.Common.{◌≡◌, take, length}
use Rattle.std.specs.Prelude.{IsTrue}
use Rattle.std.specs.List.{All}
use Rattle.bs_net.specs.Gate.{takes}
use Rattle.bs_flat_nets.specs.Order.{below_blocks}
use Rattle.bs_flat_connect.proofs.MakeLemmas.{BlocksSoFar}
use Rattle.bs_flat_connect.proofs.making.blocks.Given as goal

abbrev pub invariant-modules : goal.invariant-modules
invariant-modules l = record {
  tells : BlocksSoFar l.table l.ports l.below l.owns l.written l.k l.all;
  takes : All (λ b. All (λ g. IsTrue (takes g.kind (length g.ins))) b.gates) l.all;
  numbers : below_blocks l.all ≡ take l.k l.below;
}
