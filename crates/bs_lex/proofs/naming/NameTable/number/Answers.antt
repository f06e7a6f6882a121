use Rattle.std.proofs.Common.{sym, ◌∙◌}
use Rattle.bs_net.proofs.NamesLemmas.{number_texts}
use Rattle.bs_lex.proofs.naming.NameTable.number.Goals as goal

pub returns-in-Some-clause-number : goal.returns-in-Some-clause-number
returns-in-Some-clause-number c = rw (← c.self.view_is) (c.in-Some.ensures.index ∙ sym (number_texts c.args.name.now c.self.inside.names.keys))

pub returns-in-None-clause-number : goal.returns-in-None-clause-number
returns-in-None-clause-number c = rw (← c.self.view_is) (c.in-None.ensures.index ∙ sym (number_texts c.args.name.now c.self.inside.names.keys))
