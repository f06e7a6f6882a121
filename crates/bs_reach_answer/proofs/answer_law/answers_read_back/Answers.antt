use Rattle.bs_reach_answer.proofs.ReadBackLemmas.{read_back}
use Rattle.bs_reach_answer.proofs.SpelledLemmas.{texts_are_answers}
use Rattle.bs_reach_answer.proofs.WrittenLemmas.{right_answers}
use Rattle.bs_reach_answer.proofs.answer_law.answers_read_back.Goals as goal

pub returns-clause-back : goal.returns-clause-back
returns-clause-back c = read_back

pub returns-clause-exact : goal.returns-clause-exact
returns-clause-exact c = texts_are_answers

pub returns-clause-right : goal.returns-clause-right
returns-clause-right c = right_answers
