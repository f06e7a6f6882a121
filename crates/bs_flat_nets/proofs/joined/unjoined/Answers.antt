use Rattle.std.proofs.Common.{arith}
use Rattle.bs_flat_nets.specs.declared.blocks.JoinedNets.{JoinedNets}
use Rattle.bs_flat_nets.proofs.JoinedLemmas.{widths_more}
use Rattle.bs_flat_nets.proofs.joined.unjoined.Goals as goal

pub runs-preserved : goal.runs-preserved
runs-preserved c =
    let none : JoinedNets = record { inner = 0; outer = 0; width = 0 } in
    let more = widths_more c.args.runs.now c.runs.run-index none c.runs-test.true in
    omega (arith, more)
