use Rattle.std.proofs.Common.{Some}
use Rattle.std.proofs.lemmas.Result.{err_from_is_err_and}
use Rattle.bs_inspect_check.specs.Taking.{history_at}
use Rattle.bs_inspect_check.specs.Tallies.{watch_in}
use Rattle.bs_inspect_check.proofs.WalkLemmas.{moment_faulty, moment_walked}
use Rattle.bs_inspect_check.proofs.walk.walk_moment.Goals as goal

pub returns-in_err-next-clause-is : goal.returns-in_err-next-clause-is
returns-in_err-next-clause-is c =
    let p = err_from_is_err_and c.from_residual.result c.from_residual.ensures.1 in
    rw (p.1, p.2)
    (moment_faulty c.args.sources.clock c.args.sources.flops.now c.args.replay.now.circuit c.args.replay.now.run
    (watch_in c.args.watch.now c.args.replay.now.state) (history_at (Some c.args.spot)) _ c.in_err-next.ensures.is)

pub returns-clause-is : goal.returns-clause-is
returns-clause-is c =
    moment_walked c.args.sources.clock c.args.sources.flops.now c.args.replay.now.circuit c.args.replay.now.run
    (watch_in c.args.watch.now c.args.replay.now.state) (watch_in c.end_moment.new.watch c.end_moment.new.replay.state) (history_at (Some c.args.spot))
    (history_at c.in_ok-next.next) c.args.spot.time c.take_moment.new.changes.items c.as_slice.result.now c.in_ok-next.ensures.is c.as_slice.ensures.value
    c.in_ok-end_moment.ensures.is
