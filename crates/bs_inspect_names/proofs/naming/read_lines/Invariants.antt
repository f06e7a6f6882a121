use Rattle.std.proofs.Common.{◌≡◌, [], map, length}
use Rattle.bs_bits.specs.Lines.{lines_of}
use Rattle.bs_inspect_names.specs.Mapping.{entries_from, entry_in}
use Rattle.bs_inspect_names.proofs.naming.read_lines.Given as goal

abbrev pub invariant-lines : goal.invariant-lines
invariant-lines l =
    entries_from (map (λ k. k.now) l.keys) [] (lines_of l.text) ≡ entries_from (map (λ k. k.now) l.keys) (map entry_in l.lines.entries.items) (lines_of l.rest)

abbrev pub decreases-lines : goal.decreases-lines
decreases-lines l = length (lines_of l.rest)
