use Rattle.std.proofs.Common.{Some, None, rules}
use Rattle.bs_bits.proofs.TextLemmas.{bits_of_exact}
use Rattle.bs_bits.proofs.bits.Bits.read_text.Goals as goal

pub returns-in-Some-clause-value : goal.returns-in-Some-clause-value
returns-in-Some-clause-value c = bits_of_exact c.args.text.now (Some c.in-Some.items.items) (search rules)

pub returns-in-None-clause-value : goal.returns-in-None-clause-value
returns-in-None-clause-value c = bits_of_exact c.args.text.now None (search rules)
