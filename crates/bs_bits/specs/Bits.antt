-- Lists of bits: when two are the same, and their order (docs/DEFINITIONS.md, "Bits").
use Rattle.std.specs.Prelude.{Bool, List}
use Rattle.std.specs.Bool.{beq}
use Rattle.std.specs.declared.cmp.Ordering.{Ordering}
use Rattle.std.specs.Ordering.{bool_cmp}
use Rattle.std.specs.Cmp.Lexicographic.{pointwise, slice_cmp}

-- whether two lists of bits are the same
abbrev pub bits_eq : List Bool → List Bool → Bool
bits_eq = pointwise beq

-- the lexicographic order: the first place where both have a bit and differ decides, with 0 before 1, and else the shorter is first
abbrev pub bits_cmp : List Bool → List Bool → Ordering
bits_cmp = slice_cmp bool_cmp
