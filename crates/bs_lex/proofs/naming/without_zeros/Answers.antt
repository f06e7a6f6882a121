use Rattle.std.proofs.Common.{sym, ◌∙◌}
use Rattle.bs_lex.proofs.NamingLemmas.{one_zero_less}
use Rattle.bs_lex.proofs.naming.without_zeros.Goals as goal

pub zeros-preserved : goal.zeros-preserved
zeros-preserved c = one_zero_less c.zeros.rest.now (sym c.has_leading_zero.ensures ∙ c.zeros-test.true) ∙ c.zeros.invariant
