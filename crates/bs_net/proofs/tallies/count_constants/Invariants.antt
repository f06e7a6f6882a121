use Rattle.std.proofs.Common.{◌≡◌, length, drop, map}
use Rattle.bs_net.specs.declared.net.Const.{Const}
use Rattle.bs_net.specs.Tallies.{tallied}
use Rattle.bs_net.proofs.tallies.count_constants.Given as goal

abbrev pub invariant-loop-constant : goal.invariant-loop-constant
invariant-loop-constant l = record {
  wide : length l.table.items ≡ length l.initial.table.items;
  left : tallied l.table.items (map (λ (k : Const). k.net) (drop l.constant-index l.consts)) ≡ tallied l.initial.table.items
      (map (λ (k : Const). k.net) l.consts);
}
