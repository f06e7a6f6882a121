-- What is drawn, as the definitions see it.
use Rattle.bs_inspect_html.specs.Cells.{Figure}
use Rattle.bs_inspect_html.specs.declared.figure.Figure.{Figure as CodeFigure}

abbrev pub figure_in : CodeFigure → Figure
figure_in f = record { moments = f.moments.now; opens = f.opens.now; signed = f.signed.now }
