use Rattle.std.proofs.lemmas.Result.{err_from_is_err_and}
use Rattle.bs_net.specs.Netlist.{circuit}
use Rattle.bs_stim.specs.Runs.{run_at}
use Rattle.bs_vcd_header.specs.Tokens.{tokens_from}
use Rattle.bs_vcd.specs.History.{history_of}
use Rattle.bs_inspect_check.proofs.FlopLemmas.{run_faulty, run_watched}
use Rattle.bs_inspect_check.proofs.flops.watch_run.Goals as goal

pub returns-in_err-walk_all : goal.returns-in_err-walk_all
returns-in_err-walk_all c =
    let p = err_from_is_err_and c.from_residual-in_err-walk_all.result c.from_residual-in_err-walk_all.ensures.1 in
    rw (p.1, p.2)
    (run_faulty (circuit c.args.run.net.now) (run_at c.args.run.runs.now c.args.run.number).inputs c.args.sources.clock c.args.sources.flops.now
    (history_of (tokens_from c.args.behind.line c.args.behind.rest.now)) c.args.watch.now c.in_ok-replay.replay _ c.in_ok-replay.ensures c.requires.none
    c.in_err-walk_all.ensures)

pub returns : goal.returns
returns c =
    run_watched (circuit c.args.run.net.now) (run_at c.args.run.runs.now c.args.run.number).inputs c.args.sources.clock c.args.sources.flops.now
    (history_of (tokens_from c.args.behind.line c.args.behind.rest.now)) c.args.watch.now c.walk_all.new.watch c.in_ok-replay.replay
    c.walk_all.new.replay.state c.in_ok-replay.ensures c.requires.none c.in_ok-walk_all.ensures
