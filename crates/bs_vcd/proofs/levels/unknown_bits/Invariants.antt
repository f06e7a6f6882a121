use Rattle.std.proofs.Common.{◌≡◌, take, map}
use Rattle.bs_vcd.specs.Levels.{is_unknown, known_in}
use Rattle.bs_vcd.proofs.levels.unknown_bits.Given as goal

abbrev pub invariant-inputs : goal.invariant-inputs
invariant-inputs l = l.bits ≡ map (is_unknown (known_in l.known)) (take l.input-index l.inputs)
