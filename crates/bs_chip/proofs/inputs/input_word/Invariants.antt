use Rattle.bs_stim.specs.Runs.{inputs_of}
use Rattle.bs_chip.proofs.InputLemmas.{WordSo}
use Rattle.bs_chip.proofs.inputs.input_word.Given as goal

abbrev pub invariant-bits : goal.invariant-bits
invariant-bits l = WordSo (inputs_of l.runs) l.cycle l.word l.place l.bit l.mask
