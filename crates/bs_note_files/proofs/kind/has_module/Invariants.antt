use Rattle.std.proofs.Common.{◌≡◌, length}
use Rattle.std.specs.List.{list_any}
use Rattle.bs_bits.specs.Lines.{lines_of}
use Rattle.bs_note_files.specs.Kinds.{begins_module}
use Rattle.bs_note_files.proofs.kind.has_module.Given as goal

abbrev pub invariant-lines : goal.invariant-lines
invariant-lines l = list_any begins_module (lines_of l.rest) ≡ list_any begins_module (lines_of l.text)

abbrev pub decreases-lines : goal.decreases-lines
decreases-lines l = length (lines_of l.rest)
