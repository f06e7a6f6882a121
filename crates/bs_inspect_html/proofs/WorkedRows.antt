-- A name with marks, the cells of a bit over four moments, and names of signals of which a signature reads a bit, or none.
use Rattle.std.proofs.Common.{◌≡◌, ℕ, Bool, true, false, List, [], ◌∷◌, Option, Some, None, refl}
use Rattle.std.specs.Prelude.{codes}
use Rattle.bs_inspect_view.specs.Signals.{Signal}
use Rattle.bs_inspect_html.specs.Cells.{Figure, ValueCell, cells_of}
use Rattle.bs_inspect_html.specs.Escapes.{html_escaped}
use Rattle.bs_inspect_html.specs.Names.{name_cell, shown_name}

escaped_name : html_escaped (codes "a<b>&'[3:0]") ≡ codes "a&lt;b&gt;&amp;&apos;[3:0]"
escaped_name = refl

figure : Figure
figure = record {
  moments = (false ∷ []) ∷ (true ∷ []) ∷ (true ∷ []) ∷ (true ∷ []) ∷ [];
  opens = (false ∷ []) ∷ (false ∷ []) ∷ (true ∷ []) ∷ (true ∷ []) ∷ [];
  signed = [];
}

abbrev cell : ℕ → ℕ → Bool → Bool → ValueCell
cell from to bit marked = record { from = from; to = to; bits = bit ∷ []; marked = marked }

worked_cells : cells_of figure (0 ∷ []) ≡ cell 0 1 false false ∷ cell 1 2 true false ∷ cell 2 4 true true ∷ []
unfolding figure
worked_cells = refl

-- a vector of the flip-flops 3, 0 and 1
three_bits : Signal
three_bits = record { base = codes "q"; high = None; places = 3 ∷ 0 ∷ 1 ∷ [] }

-- the third and the fourth of five are read
marked_name : name_cell (false ∷ false ∷ true ∷ true ∷ false ∷ []) three_bits ≡ codes "<tr><th scope='row' class='m'>q <span>signature</span></th>"
unfolding name_cell shown_name three_bits
marked_name = refl

-- the third alone
other_name : name_cell (false ∷ false ∷ true ∷ false ∷ false ∷ []) three_bits ≡ codes "<tr><th scope='row'>q</th>"
unfolding name_cell shown_name three_bits
other_name = refl

-- there is no signature
plain_name : name_cell [] three_bits ≡ codes "<tr><th scope='row'>q</th>"
unfolding name_cell shown_name three_bits
plain_name = refl
