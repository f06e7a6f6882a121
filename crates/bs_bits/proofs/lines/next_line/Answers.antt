use Rattle.bs_bits.proofs.LineLemmas.{cut_at_end, cut_at_feed}
use Rattle.std.proofs.Common.{sym, ◌∙◌}
use Rattle.bs_bits.proofs.lines.next_line.Goals as goal

pub returns-then-is_empty-2 : goal.returns-then-is_empty-2
returns-then-is_empty-2 c =
    cut_at_end _ _ _ _ c.place_of.ensures.within c.place_of.ensures.before c.split_at.ensures.front c.split_at.ensures.back
    (sym c.is_empty.ensures ∙ c.if-is_empty.false) (sym c.is_empty-2.ensures ∙ c.if-is_empty-2.true)

pub returns-else-is_empty-2 : goal.returns-else-is_empty-2
returns-else-is_empty-2 c =
    cut_at_feed _ _ _ _ c.place_of.ensures.within c.place_of.ensures.before c.place_of.ensures.ended c.split_at.ensures.front c.split_at.ensures.back
    (sym c.is_empty-2.ensures ∙ c.if-is_empty-2.false)
