use Rattle.bs_reach_answer.proofs.TraceLemmas.{answer_words}
use Rattle.bs_reach_answer.proofs.answer.answer_or_diagnostic.Goals as goal

pub returns-in-Err-clause-words : goal.returns-in-Err-clause-words
returns-in-Err-clause-words c =
    answer_words c.args.path.now c.args.text.now c.in-Err.fault _ c.in-Err.ensures.reads c.answer_diagnostic.ensures.words c.answer_diagnostic.ensures.want
