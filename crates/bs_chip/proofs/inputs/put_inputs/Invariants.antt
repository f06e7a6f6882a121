use Rattle.std.proofs.Common.{◌≡◌, length}
use Rattle.bs_stim.specs.Runs.{inputs_of}
use Rattle.bs_chip.specs.Inputs.{HaveInputs}
use Rattle.bs_chip.proofs.inputs.put_inputs.Given as goal

abbrev pub invariant-words : goal.invariant-words
invariant-words l = record {
  size : length l.planes.items ≡ length l.initial.planes.items;
  have : HaveInputs (inputs_of l.runs) l.cycle l.wide l.at l.planes.items;
}
