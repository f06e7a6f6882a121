use Rattle.bs_stim.specs.Runs.{inputs_of}
use Rattle.bs_inspect_near.proofs.MaskLemmas.{MaskSo}
use Rattle.bs_inspect_near.proofs.masks.put_lanes.Given as goal

abbrev pub invariant-lanes : goal.invariant-lanes
invariant-lanes l = MaskSo (inputs_of l.run.runs.now) l.first l.run.number l.cycle l.k l.words.items
