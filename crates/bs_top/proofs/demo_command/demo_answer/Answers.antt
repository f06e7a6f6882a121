use Rattle.bs_top.proofs.demo_command.demo_answer.Goals as goal

pub returns-clause-done : goal.returns-clause-done
returns-clause-done c = record { reply = c.in_ok-reply.ensures; design = c.means_design.ensures }
