use Rattle.std.proofs.Common.{◌≡◌, take, map, true}
use Rattle.bs_vcd.specs.Levels.{is_bit, known_in, level}
use Rattle.bs_vcd.proofs.levels.high_bits.Given as goal

abbrev pub invariant-inputs : goal.invariant-inputs
invariant-inputs l = l.bits ≡ map (λ s. is_bit true (level (known_in l.known) s)) (take l.input-index l.inputs)
