use Rattle.bs_bits.proofs.PieceLemmas.{piece_at_end, piece_at_feed}
use Rattle.std.proofs.Common.{sym, ◌∙◌}
use Rattle.bs_bits.proofs.lines.whole_line.Goals as goal

pub returns-then-is_empty-clause-pieces : goal.returns-then-is_empty-clause-pieces
returns-then-is_empty-clause-pieces c =
    piece_at_end _ _ _ c.place_of.ensures.within c.place_of.ensures.before c.split_at.ensures.back
    (sym c.is_empty.ensures ∙ c.if-is_empty.true)

pub returns-else-is_empty-clause-pieces : goal.returns-else-is_empty-clause-pieces
returns-else-is_empty-clause-pieces c =
    piece_at_feed _ _ _ _ c.place_of.ensures.within c.place_of.ensures.before c.place_of.ensures.ended c.split_at.ensures.front c.split_at.ensures.back
    (sym c.is_empty.ensures ∙ c.if-is_empty.false)
