use Rattle.bs_audit.proofs.Lines.{last_is_spent, no_last}
use Rattle.bs_audit.proofs.list_end.is_spent.Goals as goal

pub returns-in-None : goal.returns-in-None
returns-in-None c = no_last c.args.budget c.args.assumptions.now c.args.lines.now c.in-None.ensures

pub returns-in-Some : goal.returns-in-Some
returns-in-Some c =
    last_is_spent c.args.budget c.args.assumptions.now c.args.lines.now c.in-Some.lines.now c.are_spent.result c.in-Some.ensures c.are_spent.ensures
