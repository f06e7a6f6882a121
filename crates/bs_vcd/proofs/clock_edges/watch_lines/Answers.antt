use Rattle.std.proofs.lemmas.Result.{err_from_is_err_and}
use Rattle.bs_vcd_header.specs.Tokens.{tokens_from}
use Rattle.bs_vcd.specs.Sampled.{asked_in}
use Rattle.bs_vcd.specs.Watching.{watch_in}
use Rattle.bs_vcd.proofs.SamplingLemmas.{lines_faulty}
use Rattle.bs_vcd.proofs.clock_edges.watch_lines.Goals as goal

pub returns-in_err-take_all : goal.returns-in_err-take_all
returns-in_err-take_all c =
    let p = err_from_is_err_and c.from_residual.result c.from_residual.ensures.1 in
    rw (p.1, p.2)
    (lines_faulty (asked_in c.args.asked.now) (tokens_from c.args.line c.args.text.now) (watch_in c.nothing-watch.result) _
    c.nothing-watch.ensures c.in_err-take_all.ensures)
