use Rattle.std.proofs.Common.{refl}
use Rattle.bs_inspect_causes.proofs.BlockLemmas.{forces_early, sourced_block, unit_there}
use Rattle.bs_inspect_causes.proofs.sourced.block_from.Goals as goal

pub sources_at-requires-clause-early : goal.sources_at-requires-clause-early
sources_at-requires-clause-early c =
    forces_early c.args.basis.now.scene.now.moments.now c.args.basis.now.drivers.now c.args.unit.at c.args.unit.flop c.args.cycle c.requires.ready
    (unit_there c.args.basis.now.scene.now.moments.now c.args.basis.now.drivers.now c.args.unit.at c.args.unit.flop c.args.facts.now c.requires.unit) c.requires.forces

pub returns : goal.returns
returns c =
    let early =
    forces_early c.args.basis.now.scene.now.moments.now c.args.basis.now.drivers.now c.args.unit.at c.args.unit.flop c.args.cycle c.requires.ready
    (unit_there c.args.basis.now.scene.now.moments.now c.args.basis.now.drivers.now c.args.unit.at c.args.unit.flop c.args.facts.now c.requires.unit) c.requires.forces in
    record {
      is =
          sourced_block c.args.basis.now.scene.now.moments.now c.args.basis.now.drivers.now c.args.unit.at c.args.unit.flop c.args.facts.now c.requires.unit c.requires.ready c.args.cycle early _ _
          c.requires.forces c.in_ok-bits.ensures c.in_ok-given.ensures.are c.in_ok-given.ensures.real;
      of_bits = c.in_ok-bits.ensures;
      ends = refl;
    }
