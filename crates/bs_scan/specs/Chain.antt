-- The scan chain.
use Rattle.std.specs.Prelude.{◌≡◌, Bool, List, [], ◌∷◌, ◌++◌, length}

-- one shift takes a chain to another: a bit comes out, and one goes in
abbrev pub Shifts : List Bool → Bool → Bool → List Bool → Type 0
Shifts chain scan_in scan_out after = chain ++ scan_in ∷ [] ≡ scan_out ∷ after

-- shifts one after another, with the bits that go in and those that come out
abbrev pub ShiftsOut : List Bool → List Bool → List Bool → List Bool → Type 0
ShiftsOut chain [] [] after = chain ≡ after
ShiftsOut chain [] (o ∷ os) after = ⊥
ShiftsOut chain (i ∷ is) [] after = ⊥
ShiftsOut chain (i ∷ is) (o ∷ os) after = (next : List Bool) × Shifts chain i o next × ShiftsOut next is os after

-- as many shifts as bits give the captured state, in order, and leave what went in
abbrev pub FullShiftsUnload : Type 0
FullShiftsUnload =
    (chain ins outs after : List Bool) → length ins ≡ length chain → ShiftsOut chain ins outs after → (outs ≡ chain) × (after ≡ ins)
