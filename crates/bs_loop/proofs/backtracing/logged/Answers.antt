use Rattle.bs_loop.proofs.LogLemmas.{with_log_is}
use Rattle.bs_loop.proofs.backtracing.logged.Goals as goal

pub returns-in-Ok : goal.returns-in-Ok
returns-in-Ok c =
    let log = c.log_of-log.ensures in
    rw c.in-Ok.is
    (with_log_is c.args.preimage c.in-Ok.report c.with_log.result c.log_of-log.result c.with_log.ensures.log c.with_log.ensures.alike log.lines log.lean
    log.accepted log.texts log.few)
