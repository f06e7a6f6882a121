use Rattle.bs_inspect_causes.proofs.BlockLemmas.{unit_there}
use Rattle.bs_inspect_causes.proofs.sourced.sourced_block.Goals as goal

pub source_cycle-requires-clause-there : goal.source_cycle-requires-clause-there
source_cycle-requires-clause-there c =
    unit_there c.args.basis.now.scene.now.moments.now c.args.basis.now.drivers.now c.args.unit.at c.args.unit.flop c.args.facts.now c.requires.unit
