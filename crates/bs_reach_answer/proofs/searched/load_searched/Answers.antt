use Rattle.bs_outside.proofs.TellingLemmas.{diagnosed_end, diagnosed_stop, diagnosed_then}
use Rattle.bs_reach_answer.proofs.searched.load_searched.Goals as goal

pub returns-in-Ok-clause-walks : goal.returns-in-Ok-clause-walks
returns-in-Ok-clause-walks g c = diagnosed_then _ c.in-Ok.ensures.walks diagnosed_end

pub returns-in-Err-clause-walks : goal.returns-in-Err-clause-walks
returns-in-Err-clause-walks g c = diagnosed_stop _ c.in-Err.ensures.walks
