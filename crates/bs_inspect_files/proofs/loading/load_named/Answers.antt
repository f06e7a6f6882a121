use Rattle.std.proofs.lemmas.Result.{err_from_is_err_and}
use Rattle.bs_outside.proofs.TellingLemmas.{diagnosed_end, diagnosed_read, diagnosed_stop, diagnosed_then}
use Rattle.bs_inspect_files.proofs.loading.load_named.Goals as goal

pub returns-in_err-net : goal.returns-in_err-net
returns-in_err-net g c =
    let p = err_from_is_err_and c.from_residual.result c.from_residual.ensures.1 in
    rw (p.1, p.2) (diagnosed_stop _ c.in_err-net.ensures)

pub returns-in-Ok : goal.returns-in-Ok
returns-in-Ok g c =
    diagnosed_then _ c.in_ok-net.ensures
    (diagnosed_then _ (diagnosed_read _ _ _ c.in-Ok.ensures c.called_or_diagnostic-known.ensures.words c.called_or_diagnostic-known.ensures.note) diagnosed_end)

pub returns-in-Err : goal.returns-in-Err
returns-in-Err g c =
    diagnosed_then _ c.in_ok-net.ensures
    (diagnosed_stop _ (diagnosed_read _ _ _ c.in-Err.ensures c.called_or_diagnostic-known.ensures.words c.called_or_diagnostic-known.ensures.note))
