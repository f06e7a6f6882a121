use Rattle.bs_audit.proofs.trace.hit_input.Goals as goal

pub returns-in-Some : goal.returns-in-Some
returns-in-Some c = rw c.in-Some.is c.input_for.ensures
