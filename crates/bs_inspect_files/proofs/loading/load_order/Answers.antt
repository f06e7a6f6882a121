use Rattle.std.proofs.lemmas.Result.{err_from_is_err_and}
use Rattle.bs_outside.proofs.TellingLemmas.{diagnosed_fetch_stop, diagnosed_reads}
use Rattle.bs_inspect_files.specs.Readings.{order_read}
use Rattle.bs_inspect_files.proofs.loading.load_order.Goals as goal

pub returns-in_err-bytes : goal.returns-in_err-bytes
returns-in_err-bytes g c =
    let p = err_from_is_err_and c.from_residual.result c.from_residual.ensures.1 in
    rw (p.1, p.2) (diagnosed_fetch_stop _ c.in_err-bytes.ensures)

pub returns : goal.returns
returns g c =
    diagnosed_reads (order_read c.args.order.now c.args.net.now.raw) _ _
    c.deref.ensures.value c.settle_diagnostic.ensures c.in_ok-bytes.ensures c.order_or_diagnostic.ensures.words c.order_or_diagnostic.ensures.note
