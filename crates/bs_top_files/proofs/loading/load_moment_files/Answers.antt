use Rattle.std.proofs.lemmas.Result.{err_from_is_err_and}
use Rattle.bs_outside.proofs.TellingLemmas.{diagnosed_end, diagnosed_read, diagnosed_stop, diagnosed_then}
use Rattle.bs_top_files.proofs.loading.load_moment_files.Goals as goal

pub returns-in_err-setup : goal.returns-in_err-setup
returns-in_err-setup g c =
    let p = err_from_is_err_and c.from_residual.result c.from_residual.ensures.1 in
    rw (p.1, p.2) (diagnosed_stop _ c.in_err-setup.ensures)

pub returns-in-Ok : goal.returns-in-Ok
returns-in-Ok g c =
    diagnosed_then _ c.in_ok-setup.ensures (diagnosed_then _ (diagnosed_read _ _ _ c.in-Ok.ensures c.moment_or_diagnostic.ensures.words c.moment_or_diagnostic.ensures.note) diagnosed_end)

pub returns-in-Err : goal.returns-in-Err
returns-in-Err g c =
    diagnosed_then _ c.in_ok-setup.ensures (diagnosed_stop _ (diagnosed_read _ _ _ c.in-Err.ensures c.moment_or_diagnostic.ensures.words c.moment_or_diagnostic.ensures.note))
