use Rattle.std.proofs.Common.{arith}
use Rattle.bs_vcd_header.proofs.IndexLemmas.{index_more}
use Rattle.bs_vcd_header.proofs.index.index_of.Goals as goal

pub variables-preserved : goal.variables-preserved
variables-preserved c =
    index_more c.args.paths.now c.args.path.now c.args.variables.now c.variables.variable-index _ c.variables.index.last c.add.new.index.last
    c.variables.index.before.items c.add.new.index.before.items c.tag_here.result (omega (arith, c.variables-test.true)) c.variables.invariant c.tag_here.ensures
    c.in_ok-add.ensures.links c.in_ok-add.ensures.ends.0
