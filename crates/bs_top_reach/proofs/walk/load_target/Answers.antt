use Rattle.bs_outside.proofs.TellingLemmas.{diagnosed_stop, diagnosed_then}
use Rattle.bs_top_reach.proofs.walk.load_target.Goals as goal

pub returns-in-Ok : goal.returns-in-Ok
returns-in-Ok g c = diagnosed_then _ c.in-Ok.ensures c.load_stated.ensures

pub returns-in-Err : goal.returns-in-Err
returns-in-Err g c = diagnosed_stop _ c.in-Err.ensures
