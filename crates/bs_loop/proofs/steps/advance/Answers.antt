use Rattle.bs_loop.proofs.steps.advance.Goals as goal

pub returns-clause-stop : goal.returns-clause-stop
returns-clause-stop c = rw c.cause_after.ensures at c.go_on-stop.ensures
