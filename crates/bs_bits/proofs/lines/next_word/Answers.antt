use Rattle.bs_bits.proofs.LineLemmas.{word_at_end, word_at_space}
use Rattle.std.proofs.Common.{sym, ◌∙◌}
use Rattle.bs_bits.proofs.lines.next_word.Goals as goal

pub returns-then-is_empty : goal.returns-then-is_empty
returns-then-is_empty c =
    word_at_end _ _ _ _ c.place_of.ensures.within c.place_of.ensures.before c.split_at.ensures.front c.split_at.ensures.back
    (sym c.is_empty.ensures ∙ c.if-is_empty.true)

pub returns-else-is_empty : goal.returns-else-is_empty
returns-else-is_empty c =
    word_at_space _ _ _ _ c.place_of.ensures.within c.place_of.ensures.before c.place_of.ensures.ended c.split_at.ensures.front c.split_at.ensures.back
    (sym c.is_empty.ensures ∙ c.if-is_empty.false)
