use Rattle.bs_inspect_html.proofs.CellLemmas.{cells_are_exact}
use Rattle.bs_inspect_html.proofs.cell_law.cells_are_exact.Goals as goal

pub returns : goal.returns
returns c = cells_are_exact
