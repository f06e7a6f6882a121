-- The modules of a text, and the own text of each.
use Rattle.std.specs.Prelude.{ℕ, zero, suc, ◌+◌, ◌-◌, Bool, true, false, not, ◌&&◌, ◌==◌, if◌then◌else◌, List, [], ◌∷◌, ◌++◌, length, map, take, filter}
use Rattle.std.specs.Prelude.{Option, Some, None, option_map, Ok, Err}
use Rattle.std.specs.List.{flat_map, list_any}
use Rattle.bs_lex.specs.Packed.{Lexeme}
use Rattle.bs_lex.specs.declared.lexeme.Sort.TheVariants as sorts
use Rattle.bs_lex.specs.Lexemes.{is_name}
use Rattle.bs_verilog_syntax.specs.Reading.{Rest, at, sort, rest, is_at}
use Rattle.bs_verilog_syntax.specs.Terms.{attributes}
use Rattle.bs_verilog_syntax.specs.Modules.{is_module, is_endmodule, is_cell}

-- ---- modules

-- A module: the attributes directly before it, and what follows from `module` up to and with `endmodule`. Where that is empty,
-- lexemes that stand in no module.
pub record Piece : Type 0 where
  pub attributes : Rest
  pub body : Rest

-- up to and with the next `endmodule`, and what follows it
unfoldable pub to_endmodule : Rest → Option (Rest × Rest)
to_endmodule [] = None
to_endmodule (t ∷ ts) = if is_endmodule t.sort then Some (t ∷ [], ts) else option_map (λ r. (t ∷ r.0, r.1)) (to_endmodule ts)

-- the lexemes of a list that stand before a later part of it
abbrev pub before : Rest → Rest → Rest
before ts later = take (length ts - length later) ts

-- lexemes in no module, and what follows them
abbrev pub loose : Rest → Rest → Piece × Rest
loose ts after = (record { attributes = ts; body = [] }, after)

-- what stands first: attributes with the module behind them; else the attributes, or one lexeme, in no module
unfoldable pub first_piece : Lexeme → Rest → Piece × Rest
first_piece t ts =
    elim (attributes (t ∷ ts)) [
      | Err fault ↦ loose (t ∷ ts) []
      | Ok here ↦
          if is_module (sort here) then (elim (to_endmodule here) [
            | Some m ↦ (record { attributes = before (t ∷ ts) here; body = m.0 }, m.1)
            | None ↦ loose (t ∷ ts) []
          ])
          else if length here == length ts + 1 then loose (t ∷ []) ts
          else loose (before (t ∷ ts) here) here
    ]

-- the pieces of a text; the number is a bound that is never met
unfoldable pub pieces_from : ℕ → Rest → List Piece
pieces_from zero ts = []
pieces_from (suc n) [] = []
pieces_from (suc n) (t ∷ ts) = let first = first_piece t ts in first.0 ∷ pieces_from n first.1

abbrev pub pieces : Rest → List Piece
pieces ts = pieces_from (length ts) ts

-- a module that is no cell
abbrev pub is_design : Piece → Bool
is_design p = is_module (sort p.body) && not (is_cell (sort (rest p.body)))

-- the modules of a text, cells aside, in file order
abbrev pub modules_of : Rest → List Piece
modules_of ts = filter is_design (pieces ts)

-- the number of a module's name among the names, if it has one
abbrev pub name_id : Piece → Option ℕ
name_id p = elim (rest p.body) [ [] ↦ None | t ∷ ts ↦ if is_name t.sort then Some t.name else None ]

abbrev pub is_named : ℕ → Piece → Bool
is_named id p = elim (name_id p) [ Some n ↦ n == id | None ↦ false ]

-- ---- items

-- up to and with the next `;` outside attributes, or up to `endmodule`; and what follows
unfoldable pub to_semicolon : Bool → Rest → Rest × Rest
to_semicolon inside [] = ([], [])
to_semicolon inside (t ∷ ts) =
    if is_endmodule t.sort then ([], t ∷ ts)
    else if not inside && is_at ";" (t ∷ ts) then (t ∷ [], ts)
    else (
    let more = to_semicolon (elim t.sort as (λ _. Bool) [ sorts.AttrOpen ↦ true | sorts.AttrClose ↦ false | _ ↦ inside ]) ts in
    (t ∷ more.0, more.1))

-- an item, and the module from it on
pub record Item : Type 0 where
  pub lexemes : Rest
  pub from : Rest

-- the items up to `endmodule`, and `endmodule`; the number is a bound that is never met
unfoldable pub items_from : ℕ → Rest → List Item × Rest
items_from zero ts = ([], ts)
items_from (suc n) ts =
    if is_endmodule (sort ts) then ([], ts)
    else (
    let first = to_semicolon false ts in
    let others = items_from n first.1 in
    (record { lexemes = first.0; from = ts } ∷ others.0, others.1))

-- the header with its `;`, the items, and `endmodule`
pub record Body : Type 0 where
  pub header : Rest
  pub items : List Item
  pub last : Rest

abbrev pub body_of : Piece → Body
body_of p =
    let head = to_semicolon false p.body in
    let others = items_from (length head.1) head.1 in
    record { header = head.0; items = others.0; last = others.1 }

-- what follows the attributes that come first
abbrev pub past_attributes : Rest → Rest
past_attributes ts = elim (attributes ts) [ Ok here ↦ here | Err fault ↦ [] ]

-- an item whose first token is the name of a module
abbrev pub is_instancing : List Piece → Item → Bool
is_instancing ms item =
    elim (past_attributes item.lexemes) [ [] ↦ false | t ∷ ts ↦ is_name t.sort && not (is_cell t.sort) && list_any (is_named t.name) ms ]

-- ---- own texts

-- a module without its instance statements
abbrev pub own_body : List Piece → Piece → Rest
own_body ms p =
    let b = body_of p in
    p.attributes ++ (b.header ++ (flat_map (λ i. if is_instancing ms i then [] else i.lexemes) b.items ++ b.last))

-- what a piece adds to the own text of the module that begins at a place: other modules that are no cells add nothing
abbrev pub own_piece : List Piece → ℕ → Piece → Rest
own_piece ms place p =
    if not (is_design p) then p.attributes ++ p.body else if at p.body == place then own_body ms p else []

-- the own text of a module: the text without the other modules that are no cells, and without its instance statements
unfoldable pub own_text : Rest → Piece → Rest
own_text ts m = flat_map (own_piece (modules_of ts) (at m.body)) (pieces ts)

-- its instance statements, each with the module from it on
unfoldable pub statements_of : List Piece → Piece → List Rest
statements_of ms m = map (λ i. past_attributes i.from) (filter (is_instancing ms) (body_of m).items)
