-- A text dealt out: its modules that are no cells, and the lexemes outside them.
use Rattle.std.specs.Prelude.{◌≡◌, ℕ, ◌+◌, ◌≤◌, ◌<◌, Bool, not, ◌&&◌, if◌then◌else◌, List, [], ◌∷◌, ◌++◌, length, map, take, drop}
use Rattle.std.specs.Prelude.{Option, Some, None, Ok, Err, ⊤}
use Rattle.std.specs.List.{flat_map}
use Rattle.bs_verilog_syntax.specs.Reading.{Rest, sort, rest}
use Rattle.bs_verilog_syntax.specs.Terms.{attributes}
use Rattle.bs_verilog_syntax.specs.Modules.{is_module, is_cell}
use Rattle.bs_flat_meaning.specs.Pieces.{Piece, to_endmodule, first_piece, pieces, is_design}
use Rattle.bs_flat_modules.specs.Copying.{part}
use Rattle.bs_flat_modules.specs.declared.pieces.Cut.{Cut}
use Rattle.bs_flat_modules.specs.declared.dealing.ModuleSpan.{ModuleSpan}
use Rattle.bs_flat_modules.specs.declared.dealing.Dealt.{Dealt}

-- the attributes are so many lexemes, or are not closed
abbrev pub IsPast : Rest → Option ℕ → Type 0
IsPast ts (Some size) = (attributes ts ≡ Ok (drop size ts)) × (size ≤ length ts)
IsPast ts None = elim (attributes ts) as (λ _. Type 0) [ Ok here ↦ ⊥ | Err fault ↦ ⊤ ]

-- the next `endmodule` is the last of so many lexemes
abbrev pub EndsAt : Rest → ℕ → Type 0
EndsAt ts size = (to_endmodule ts ≡ Some (take size ts, drop size ts)) × (0 < size) × (size ≤ length ts)

-- the piece that a cut gives
abbrev pub piece_at : Rest → Cut → Piece
piece_at ts c = record { attributes = take c.body ts; body = part ts c.body c.stop }

-- a cut gives the piece that stands first, which is not empty, and what follows it
abbrev pub CutsFirst : Rest → Cut → Type 0
CutsFirst [] c = ⊥
CutsFirst (t ∷ ts) c =
    (first_piece t ts ≡ (piece_at (t ∷ ts) c, drop c.stop (t ∷ ts))) × (0 < c.stop) × (c.body ≤ c.stop) × (c.stop ≤ length (t ∷ ts))

-- a module that is no cell has such a body
abbrev pub is_design_body : Rest → Bool
is_design_body body = is_module (sort body) && not (is_cell (sort (rest body)))

-- a module, and how many lexemes outside the modules stand before it
pub record Standing : Type 0 where
  pub before : ℕ
  pub piece : Piece

-- the modules among pieces, behind a number of lexemes outside modules
unfoldable pub designs_after : ℕ → List Piece → List Standing
designs_after n [] = []
designs_after n (p ∷ ps) =
    if is_design p then record { before = n; piece = p } ∷ designs_after n ps
    else designs_after (n + length (p.attributes ++ p.body)) ps

-- the lexemes of a piece, where it is no module
abbrev pub outside : Piece → Rest
outside p = if is_design p then [] else p.attributes ++ p.body

-- the lexemes outside the modules
abbrev pub others_of : List Piece → Rest
others_of ps = flat_map outside ps

-- the module that stands at a place
abbrev pub standing_at : Rest → ModuleSpan → Standing
standing_at ts p = record { before = p.before; piece = record { attributes = part ts p.from p.body; body = part ts p.body p.stop } }

-- the modules of a text, and the lexemes outside them
pub record IsDealt (ts : Rest) (d : Dealt) : Type 0 where
  pub modules : map (standing_at ts) d.modules ≡ designs_after 0 (pieces ts)
  pub others : d.others ≡ others_of (pieces ts)
