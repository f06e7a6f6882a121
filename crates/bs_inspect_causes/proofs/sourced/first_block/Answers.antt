use Rattle.std.proofs.Common.{refl}
use Rattle.bs_inspect_causes.proofs.BlockLemmas.{begun_block}
use Rattle.bs_inspect_causes.proofs.sourced.first_block.Goals as goal

pub returns : goal.returns
returns c = record {
  is =
      begun_block c.args.basis.now.scene.now.moments.now c.args.basis.now.drivers.now c.args.unit.at c.args.unit.flop c.args.facts.now c.requires.unit _ _ c.requires.first c.in_ok-bits.ensures
      c.new.ensures;
  of_bits = c.in_ok-bits.ensures;
  ends = refl;
}
