use Rattle.std.proofs.Common.{◌≡◌, ◌++◌, take}
use Rattle.bs_stim.specs.StimulusText.{inputs_text}
use Rattle.bs_inspect_values.proofs.run.push_inputs.Given as goal

abbrev pub invariant-lines : goal.invariant-lines
invariant-lines l = l.text.items ≡ l.initial.text.items ++ inputs_text (take l.bits-index l.lines)
