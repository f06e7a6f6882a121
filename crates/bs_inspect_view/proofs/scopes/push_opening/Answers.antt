use Rattle.std.proofs.Common.{[], ◌∷◌}
use Rattle.std.specs.Prelude.{codes}
use Rattle.bs_inspect_view.proofs.ScopeLemmas.{opens}
use Rattle.bs_inspect_view.proofs.scopes.push_opening.Goals as goal

pub returns : goal.returns
returns c =
    opens c.args.text.now.items (codes "$scope module ") c.args.word.now (codes " $end") (10 ∷ []) c.push_piece.new.text.items
    c.push_piece-2.new.text.items c.push_line.new.text.items c.in_ok-push_piece.ensures.ok c.in_ok-push_piece-2.ensures.ok c.in_ok-push_line.ensures.ok
