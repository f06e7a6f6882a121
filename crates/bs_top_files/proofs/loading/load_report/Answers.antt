use Rattle.std.proofs.lemmas.Result.{err_from_is_err_and}
use Rattle.bs_top_files.specs.Readings.{report_read}
use Rattle.bs_outside.proofs.TellingLemmas.{diagnosed_fetch_stop, diagnosed_reads}
use Rattle.bs_top_files.proofs.loading.load_report.Goals as goal

pub returns-in_err-bytes-clause-walks : goal.returns-in_err-bytes-clause-walks
returns-in_err-bytes-clause-walks g c =
    let p = err_from_is_err_and c.from_residual.result c.from_residual.ensures.1 in
    rw (p.1, p.2) (diagnosed_fetch_stop _ c.in_err-bytes.ensures)

pub returns-clause-walks : goal.returns-clause-walks
returns-clause-walks g c =
    diagnosed_reads (report_read c.args.name.now) _ _
    c.deref.ensures.value c.settle_diagnostic.ensures c.in_ok-bytes.ensures c.report_or_diagnostic.ensures.words c.report_or_diagnostic.ensures.note
