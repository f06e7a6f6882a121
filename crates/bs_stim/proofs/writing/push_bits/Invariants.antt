use Rattle.std.proofs.Common.{◌≡◌, ◌++◌, [], map, take, get_or}
use Rattle.bs_bits.specs.Text.{digit_of}
use Rattle.bs_stim.proofs.writing.push_bits.Given as goal

abbrev pub invariant-places : goal.invariant-places
invariant-places l = l.into.items ≡ l.initial.into.items ++ map digit_of (take l.place (get_or l.inputs.rows l.cycle []))
