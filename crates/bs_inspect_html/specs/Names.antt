-- The names of signals, as HTML.
use Rattle.std.specs.Prelude.{ℕ, Bool, List, ◌++◌, codes, if◌then◌else◌}
use Rattle.bs_inspect_view.specs.Signals.{Signal, name_text}
use Rattle.bs_inspect_html.specs.Cells.{is_signed}
use Rattle.bs_inspect_html.specs.Escapes.{html_escaped}

-- the name of a signal, as HTML shows it
unfoldable pub shown_name : Signal → List ℕ
shown_name s = html_escaped (name_text s)

-- a name that is marked has a class, and words that are read aloud as well
abbrev pub name_front : Bool → List ℕ
name_front marked = if marked then codes "<tr><th scope='row' class='m'>" else codes "<tr><th scope='row'>"

abbrev pub name_end : Bool → List ℕ
name_end marked = if marked then codes " <span>signature</span></th>" else codes "</th>"

-- the cell of a signal's name, marked where one of its places is read
unfoldable pub name_cell : List Bool → Signal → List ℕ
name_cell signed s = name_front (is_signed signed s.places) ++ (shown_name s ++ name_end (is_signed signed s.places))
