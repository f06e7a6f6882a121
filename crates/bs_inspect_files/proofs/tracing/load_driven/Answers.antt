use Rattle.bs_outside.proofs.TellingLemmas.{diagnosed_end, diagnosed_read, diagnosed_stop, diagnosed_then}
use Rattle.bs_inspect_files.proofs.tracing.load_driven.Goals as goal

pub returns-in-Ok : goal.returns-in-Ok
returns-in-Ok g c =
    diagnosed_then _ (diagnosed_read _ _ _ c.in-Ok.ensures c.fit_or_diagnostic-fits.ensures.words c.fit_or_diagnostic-fits.ensures.note) diagnosed_end

pub returns-in-Err : goal.returns-in-Err
returns-in-Err g c = diagnosed_stop _ (diagnosed_read _ _ _ c.in-Err.ensures c.fit_or_diagnostic-fits.ensures.words c.fit_or_diagnostic-fits.ensures.note)
