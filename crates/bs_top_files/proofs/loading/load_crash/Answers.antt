use Rattle.bs_outside.proofs.TellingLemmas.{diagnosed_end, diagnosed_stop, diagnosed_then}
use Rattle.bs_top_files.proofs.loading.load_crash.Goals as goal

pub returns-in-Ok : goal.returns-in-Ok
returns-in-Ok g c = diagnosed_then _ c.in-Ok.ensures.walks diagnosed_end

pub returns-in-Err : goal.returns-in-Err
returns-in-Err g c = diagnosed_stop _ c.in-Err.ensures.walks
