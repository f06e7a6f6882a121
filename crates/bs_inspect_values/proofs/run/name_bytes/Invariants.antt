use Rattle.std.proofs.Common.{◌≡◌, map, take}
use Rattle.bs_inspect_values.specs.SimulatedRun.{name_byte}
use Rattle.bs_inspect_values.proofs.run.name_bytes.Given as goal

abbrev pub invariant-bytes : goal.invariant-bytes
invariant-bytes l = l.name.items ≡ map name_byte (take l.byte-index l.text)
