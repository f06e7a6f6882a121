use Rattle.bs_inspect_html.proofs.EscapeLemmas.{escaped_is_quiet}
use Rattle.bs_inspect_html.proofs.cell_law.escaped_is_quiet.Goals as goal

pub returns : goal.returns
returns c = escaped_is_quiet
