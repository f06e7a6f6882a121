use Rattle.std.proofs.Common.{◌≡◌, [], length}
use Rattle.std.specs.Prelude.{slice_index_or}
use Rattle.bs_bits.specs.Lines.{lines_of}
use Rattle.bs_inspect_notes.specs.Names.{numbered}
use Rattle.bs_inspect_notes.proofs.name.numbered.Given as goal

abbrev pub invariant-lines : goal.invariant-lines
invariant-lines l = numbered l.text l.number ≡ slice_index_or (lines_of l.rest) l.left []

abbrev pub decreases-lines : goal.decreases-lines
decreases-lines l = length (lines_of l.rest)
