use Rattle.std.proofs.Common.{◌≡◌, length, drop, map, true}
use Rattle.bs_net.specs.declared.net.Const.{Const}
use Rattle.bs_wave.specs.Deciding.{marked}
use Rattle.bs_wave.proofs.decided.mark_constants.Given as goal

abbrev pub invariant-loop-constant : goal.invariant-loop-constant
invariant-loop-constant l = record {
  wide : length l.table.items ≡ length l.initial.table.items;
  left : marked true l.table.items (map (λ (k : Const). k.net.0) (drop l.constant-index l.consts))
      ≡ marked true l.initial.table.items (map (λ (k : Const). k.net.0) l.consts);
}
