use Rattle.std.proofs.Common.{sym}
use Rattle.bs_net.proofs.NamesLemmas.{kept}
use Rattle.bs_lex.proofs.naming.NameTable.add.Goals as goal

pub returns-in-Some-clause-ok : goal.returns-in-Some-clause-ok
returns-in-Some-clause-ok c = kept c.args.self.now c.args.name.now c.in-Some.number (sym c.in-Some.ensures.number)
