use Rattle.std.proofs.lemmas.Result.{err_from_is_err_and}
use Rattle.bs_vcd_header.specs.Tokens.{tokens_from}
use Rattle.bs_vcd.specs.History.{history_of}
use Rattle.bs_inspect_check.specs.Tallies.{tally_in, watch_in}
use Rattle.bs_inspect_check.proofs.FlopLemmas.{all_faulty, all_walked}
use Rattle.bs_inspect_check.proofs.flops.walk_all.Goals as goal

pub returns-in_err-walk : goal.returns-in_err-walk
returns-in_err-walk c =
    let p = err_from_is_err_and c.from_residual.result c.from_residual.ensures.1 in
    rw (p.1, p.2)
    (all_faulty c.args.sources.clock c.args.sources.flops.now c.args.replay.now.circuit c.args.replay.now.run
    (watch_in c.args.watch.now c.args.replay.now.state) (history_of (tokens_from c.args.behind.line c.args.behind.rest.now)) _ c.in_err-walk.ensures.is)

pub returns : goal.returns
returns c =
    all_walked c.args.sources.clock c.args.sources.flops.now c.args.replay.now.circuit c.walk.new.replay.circuit c.args.replay.now.run c.walk.new.replay.run
    (watch_in c.args.watch.now c.args.replay.now.state) (watch_in c.walk.new.watch c.walk.new.replay.state)
    (history_of (tokens_from c.args.behind.line c.args.behind.rest.now)) (tally_in c.end_cycle.new.tally c.end_cycle.new.replay.state) c.walk.ensures.circuit
    c.walk.ensures.run c.in_ok-walk.ensures.is c.in_ok-end_cycle.ensures.is
