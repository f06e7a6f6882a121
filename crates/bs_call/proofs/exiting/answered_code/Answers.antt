use Rattle.bs_call.proofs.exiting.answered_code.Goals as goal

pub returns : goal.returns
returns g c = record { answer = c.answer_words.result; answers = c.answer_words.ensures; ended = c.exit_code.ensures }
