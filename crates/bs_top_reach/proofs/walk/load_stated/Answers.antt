use Rattle.bs_outside.proofs.TellingLemmas.{diagnosed_read, diagnosed_stop, diagnosed_then}
use Rattle.bs_top_reach.proofs.walk.load_stated.Goals as goal

pub returns-in-Ok : goal.returns-in-Ok
returns-in-Ok g c =
    diagnosed_then _ (diagnosed_read _ _ _ c.in-Ok.ensures c.state_or_diagnostic.ensures.words c.state_or_diagnostic.ensures.note) c.load_sized.ensures

pub returns-in-Err : goal.returns-in-Err
returns-in-Err g c = diagnosed_stop _ (diagnosed_read _ _ _ c.in-Err.ensures c.state_or_diagnostic.ensures.words c.state_or_diagnostic.ensures.note)
