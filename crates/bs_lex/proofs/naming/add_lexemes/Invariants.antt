use Rattle.std.proofs.Common.{◌-◌, length}
use Rattle.bs_lex.proofs.NamingLemmas.{IsRead}
use Rattle.bs_lex.proofs.naming.add_lexemes.Given as goal

abbrev pub invariant-each : goal.invariant-each
invariant-each l = IsRead l.source l.at l.table l.lexemes

abbrev pub decreases-each : goal.decreases-each
decreases-each l = length l.source - l.at
