use Rattle.std.proofs.Common.{ℕ, List}
use Rattle.bs_outside.specs.Plan.{Plan}
use Rattle.bs_top_files.specs.Causes.{Case}
use Rattle.std.proofs.lemmas.Result.{err_from_is_err_and}
use Rattle.bs_outside.proofs.TellingLemmas.{diagnosed_fetch_stop}
use Rattle.bs_inspect_report.specs.Keys.{flop_keys}
use Rattle.bs_vcd.specs.declared.cycles.MarkedStates.{MarkedStates}
use Rattle.bs_inspect_values.specs.Dumped.{states_step, taking_in}
use Rattle.bs_inspect_values.proofs.WalkLemmas.{diagnosed_fetch_then}
use Rattle.bs_inspect_values.proofs.dumping.load_named.Goals as goal

pub returns-in_err-bytes-clause-walks : goal.returns-in_err-bytes-clause-walks
returns-in_err-bytes-clause-walks g c =
    let keys : List (List ℕ) = flop_keys c.args.net.now.raw in
    let f : List ℕ → Plan Case MarkedStates = λ t. states_step c.args.file.now keys t (taking_in c.args.taking) in
    let p = err_from_is_err_and c.from_residual.result c.from_residual.ensures.1 in
    rw (p.1, p.2) (diagnosed_fetch_stop f c.in_err-bytes.ensures)

pub returns-clause-walks : goal.returns-clause-walks
returns-clause-walks g c =
    let keys : List (List ℕ) = flop_keys c.args.net.now.raw in
    let f : List ℕ → Plan Case MarkedStates = λ t. states_step c.args.file.now keys t (taking_in c.args.taking) in
    diagnosed_fetch_then f c.deref.result.now c.deref.ensures.value c.in_ok-bytes.ensures c.load_renamed.ensures.walks
