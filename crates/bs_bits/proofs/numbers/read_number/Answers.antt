use Rattle.std.proofs.Common.{sym, ◌∙◌}
use Rattle.bs_bits.proofs.NumberLemmas.{canonical, not_canonical}
use Rattle.bs_bits.proofs.numbers.read_number.Goals as goal

pub returns-then-is_canonical-clause-inverse : goal.returns-then-is_canonical-clause-inverse
returns-then-is_canonical-clause-inverse c = canonical c.args.text.now _ (sym c.is_canonical.ensures ∙ c.if-is_canonical.true) c.digits_value.ensures

pub returns-else-is_canonical-clause-inverse : goal.returns-else-is_canonical-clause-inverse
returns-else-is_canonical-clause-inverse c = not_canonical c.args.text.now (sym c.is_canonical.ensures ∙ c.if-is_canonical.false)
