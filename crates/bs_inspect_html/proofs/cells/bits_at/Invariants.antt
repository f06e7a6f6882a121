use Rattle.std.proofs.Common.{◌≡◌, map, take}
use Rattle.bs_inspect_html.specs.Cells.{bit_of}
use Rattle.bs_inspect_html.proofs.cells.bits_at.Given as goal

abbrev pub invariant-places : goal.invariant-places
invariant-places l = l.bits.items ≡ map (bit_of l.figure.moments.now l.i) (take l.place-index l.places)
