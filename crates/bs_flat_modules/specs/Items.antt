-- The items of a module: what its own text keeps of them, and its instances. The marks say which names are those of modules.
use Rattle.std.specs.Prelude.{◌≡◌, ℕ, zero, suc, ◌≤◌, Bool, true, false, not, ◌&&◌, if◌then◌else◌, List, [], ◌∷◌, ◌++◌, length, take, drop, Result, Ok}
use Rattle.std.specs.List.{flat_map, list_any}
use Rattle.bs_bits.specs.Reading.{◌>>=◌}
use Rattle.bs_lex.specs.Lexemes.{is_name}
use Rattle.bs_lex.specs.declared.lexeme.Sort.{Sort}
use Rattle.bs_lex.specs.declared.lexeme.Sort.TheVariants as sorts
use Rattle.bs_verilog_syntax.specs.declared.fault.VerilogFault.{VerilogFault}
use Rattle.bs_verilog_syntax.specs.Reading.{Rest, sort, is_at}
use Rattle.bs_verilog_syntax.specs.Modules.{is_cell, is_endmodule}
use Rattle.bs_flat_meaning.specs.declared.statements.Written.{Written}
use Rattle.bs_flat_meaning.specs.Pieces.{Piece, to_semicolon, items_from, past_attributes, is_named}
use Rattle.bs_flat_meaning.specs.Instancing.{instancing}

-- an attribute is open behind a lexeme
abbrev pub stays_inside : Bool → Sort → Bool
stays_inside inside sorts.AttrOpen = true
stays_inside inside sorts.AttrClose = false
stays_inside inside _ = inside

-- a `;` outside attributes
abbrev pub is_semicolon : Bool → Rest → Bool
is_semicolon inside ts = not inside && is_at ";" ts

-- the next item has so many lexemes
abbrev pub IsItem : Rest → ℕ → Type 0
IsItem ts size = (to_semicolon false ts ≡ (take size ts, drop size ts)) × (size ≤ length ts)

-- the marks of modules
abbrev pub names_one : List Piece → ℕ → Bool
names_one ms id = list_any (is_named id) ms

-- a marked name that is no cell's is next
abbrev pub is_marked_next : (ℕ → Bool) → Rest → Bool
is_marked_next marks [] = false
is_marked_next marks (t ∷ ts) = is_name t.sort && not (is_cell t.sort) && marks t.name

-- an item is an instance statement
abbrev pub is_statement : (ℕ → Bool) → Rest → Bool
is_statement marks item = is_marked_next marks (past_attributes item)

-- what a module's own text keeps of an item
abbrev pub kept : (ℕ → Bool) → Rest → Rest
kept marks item = if is_statement marks item then [] else item

-- what it keeps of at most so many items, and what follows these
abbrev pub own_items : (ℕ → Bool) → ℕ → Rest → Rest
own_items marks n ts = let all = items_from n ts in flat_map (λ i. kept marks i.lexemes) all.0 ++ all.1

-- the instances of a statement behind attributes
abbrev pub statement : Rest → Result (List Written) VerilogFault
statement ts = instancing (past_attributes ts) >>= λ r. Ok r.0

-- the instances before, and those of an item, which is given alone and with what follows it
abbrev pub with_item : (ℕ → Bool) → List Written → Rest → Rest → Result (List Written) VerilogFault
with_item marks all item ts = if is_statement marks item then (statement ts >>= λ more. Ok (all ++ more)) else Ok all

-- the instances before, and those of at most so many items
unfoldable pub written_items : (ℕ → Bool) → ℕ → List Written → Rest → Result (List Written) VerilogFault
written_items marks zero all ts = Ok all
written_items marks (suc n) all ts =
    if is_endmodule (sort ts) then Ok all
    else (let first = to_semicolon false ts in with_item marks all first.0 ts >>= λ more. written_items marks n more first.1)
