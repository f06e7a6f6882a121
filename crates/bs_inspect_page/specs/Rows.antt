-- The rows of signals, as HTML.
use Rattle.std.specs.Prelude.{ℕ, ◌-◌, ◌==◌, nat_lt, Bool, true, false, List, [], ◌∷◌, ◌++◌, length, codes, decimal, if◌then◌else◌}
use Rattle.std.specs.List.{flat_map, range_with_len}
use Rattle.bs_inspect_view.specs.Signals.{Signal}
use Rattle.bs_inspect_view.specs.Values.{value_text}
use Rattle.bs_inspect_html.specs.Cells.{ValueCell, Figure, begins, cell_from}
use Rattle.bs_inspect_html.specs.Names.{name_cell}

-- a bit that is 1, one that is 0, or a vector
abbrev pub value_class : List Bool → List ℕ
value_class (true ∷ []) = codes "h"
value_class (false ∷ []) = codes "l"
value_class _ = codes "v"

abbrev pub open_word : Bool → List ℕ
open_word marked = if marked then codes " u" else []

-- how many columns a cell spans
abbrev pub span_words : ℕ → List ℕ
span_words count = if count == 1 then [] else codes " colspan='" ++ (decimal count ++ codes "'")

-- a value that may be cut where it is drawn, for who points at it
abbrev pub title_words : List Bool → List ℕ
title_words bits = if nat_lt 32 (length bits) then codes " title='" ++ (value_text bits ++ codes "'") else []

-- how a cell is drawn
unfoldable pub look_text : ValueCell → List ℕ
look_text c =
    codes "<td class='" ++ (value_class c.bits ++ (open_word c.marked ++ (codes "'" ++ (span_words (c.to - c.from) ++ title_words c.bits))))

unfoldable pub cell_text : ValueCell → List ℕ
cell_text c = look_text c ++ (codes "><b>" ++ (value_text c.bits ++ codes "</b></td>"))

-- the cell that begins at a moment, if one does
abbrev pub cell_at : Figure → List ℕ → ℕ → List ℕ
cell_at f places i = if begins f places i then cell_text (cell_from f places i) else []

unfoldable pub cells_text : Figure → List ℕ → List ℕ
cells_text f places = flat_map (cell_at f places) (range_with_len 0 (length f.moments))

-- the name of a signal, and its cells
unfoldable pub row_text : Figure → Signal → List ℕ
row_text f s = name_cell f.signed s ++ (cells_text f s.places ++ codes "</tr>\n")

abbrev pub signal_rows : Figure → List Signal → List ℕ
signal_rows f signals = flat_map (row_text f) signals

-- rows under a heading, and nothing where there is none
unfoldable pub group_text : List ℕ → Figure → List Signal → List ℕ
group_text heading f signals =
    codes "<tbody><tr><th class='g' scope='rowgroup'>" ++ (heading ++ (codes "</th></tr>\n" ++ (signal_rows f signals ++ codes "</tbody>\n")))
