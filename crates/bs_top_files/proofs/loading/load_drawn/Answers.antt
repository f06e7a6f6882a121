use Rattle.std.proofs.lemmas.Result.{err_from_is_err_and}
use Rattle.bs_outside.proofs.TellingLemmas.{diagnosed_end, diagnosed_read, diagnosed_stop, diagnosed_then}
use Rattle.bs_top_files.proofs.loading.load_drawn.Goals as goal

pub returns-in_err-audit_files : goal.returns-in_err-audit_files
returns-in_err-audit_files g c =
    let p = err_from_is_err_and c.from_residual.result c.from_residual.ensures.1 in
    rw (p.1, p.2) (diagnosed_stop _ c.in_err-audit_files.ensures)

pub returns-in-Ok : goal.returns-in-Ok
returns-in-Ok g c =
    diagnosed_then _ c.in_ok-audit_files.ensures (diagnosed_then _ (diagnosed_read _ _ _ c.in-Ok.ensures c.size_or_diagnostic-size.ensures.words c.size_or_diagnostic-size.ensures.note) diagnosed_end)

pub returns-in-Err : goal.returns-in-Err
returns-in-Err g c =
    diagnosed_then _ c.in_ok-audit_files.ensures (diagnosed_stop _ (diagnosed_read _ _ _ c.in-Err.ensures c.size_or_diagnostic-size.ensures.words c.size_or_diagnostic-size.ensures.note))
