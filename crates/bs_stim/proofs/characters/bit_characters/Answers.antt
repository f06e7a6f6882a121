use Rattle.std.proofs.Common.{sym, ◌∙◌}
use Rattle.bs_stim.proofs.CharacterLemmas.{text_bits, no_text}
use Rattle.bs_stim.proofs.characters.bit_characters.Goals as goal

pub returns-then-are_digits-clause-reads : goal.returns-then-are_digits-clause-reads
returns-then-are_digits-clause-reads c =
    text_bits c.args.text.now (sym c.is_empty.ensures ∙ c.if-is_empty.false) (sym c.is_dot.ensures ∙ c.if-is_dot.false)
    (sym c.are_digits.ensures ∙ c.if-are_digits.true)

pub returns-else-are_digits-clause-reads : goal.returns-else-are_digits-clause-reads
returns-else-are_digits-clause-reads c =
    no_text c.args.text.now (sym c.is_empty.ensures ∙ c.if-is_empty.false) (sym c.is_dot.ensures ∙ c.if-is_dot.false)
    (sym c.are_digits.ensures ∙ c.if-are_digits.false)
