use Rattle.bs_reach_answer.proofs.SpelledLemmas.{texts_are_answers}
use Rattle.bs_reach_answer.proofs.reading.read_answer.Goals as goal

pub returns-clause-text : goal.returns-clause-text
returns-clause-text c = (texts_are_answers c.args.bytes.now c.in_ok-answer.answer c.in_ok-answer.ensures).0
