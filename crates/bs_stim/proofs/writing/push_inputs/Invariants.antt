use Rattle.std.proofs.Common.{◌≡◌, ◌++◌, take}
use Rattle.bs_stim.specs.StimulusText.{inputs_text}
use Rattle.bs_stim.proofs.writing.push_inputs.Given as goal

abbrev pub invariant-cycles : goal.invariant-cycles
invariant-cycles l = l.into.items ≡ l.initial.into.items ++ inputs_text (take l.cycle l.inputs.rows)
