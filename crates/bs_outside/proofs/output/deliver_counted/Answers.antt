use Rattle.bs_outside.proofs.Putting.{counts_none, counts_to_fault, lines_whole, lines_to_fault}
use Rattle.bs_outside.proofs.output.deliver_counted.Goals as goal

pub returns-in-Done-clause-lines : goal.returns-in-Done-clause-lines
returns-in-Done-clause-lines g c = lines_whole c.deref.ensures.value c.requires c.in-Done.ensures.lines

pub returns-in-Done-clause-counted : goal.returns-in-Done-clause-counted
returns-in-Done-clause-counted g c = counts_none c.requires

pub returns-in-Failed-clause-lines : goal.returns-in-Failed-clause-lines
returns-in-Failed-clause-lines g c = lines_to_fault c.deref.ensures.value c.in-Failed.ensures.lines

pub returns-in-Failed-clause-counted : goal.returns-in-Failed-clause-counted
returns-in-Failed-clause-counted g c = counts_to_fault c.deref.ensures.value c.in-Failed.ensures.counted
