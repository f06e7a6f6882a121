use Rattle.std.proofs.Common.{arith}
use Rattle.bs_vcd.specs.Levels.{known_in}
use Rattle.bs_inspect_check.proofs.LevelLemmas.{look_more, unknown_more}
use Rattle.bs_inspect_check.proofs.tally.look.Goals as goal

pub flops-preserved : goal.flops-preserved
flops-preserved c = record {
  differs =
      look_more c.args.state.now (known_in c.args.known.now) c.args.sources.now c.flops.i _ c.flops.differs c.either-differs.result c.bit_at.result
      c.is_other.result c.flop_level-level.result (omega (arith, c.flops-test.true)) c.flops.invariant.differs c.flop_level-level.ensures c.bit_at.ensures
      c.is_other.ensures c.either-differs.ensures;
  unknown =
      unknown_more (known_in c.args.known.now) c.args.sources.now c.flops.i c.flops.unknown c.one_if-unknown.result _ c.flop_level-level.result
      c.is_unknown.result (omega (arith, c.flops-test.true)) c.flops.invariant.unknown c.flop_level-level.ensures c.is_unknown.ensures
      c.one_if-unknown.ensures.is;
  few = omega (arith, c.flops.invariant.few, c.one_if-unknown.ensures.small);
}
