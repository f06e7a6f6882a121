use Rattle.std.proofs.Common.{ℕ, List, map, ◌∙◌}
use Rattle.bs_outside.specs.Plan.{Plan}
use Rattle.bs_top_files.specs.Causes.{Case}
use Rattle.bs_inspect_check.specs.declared.comparison.Comparison.{Comparison}
use Rattle.std.proofs.lemmas.Result.{err_from_is_err_and}
use Rattle.bs_outside.proofs.TellingLemmas.{diagnosed_fetch_stop}
use Rattle.bs_inspect_report.specs.Keys.{flop_keys}
use Rattle.bs_inspect_files.specs.Checked.{beside_in, names_step}
use Rattle.bs_inspect_values.proofs.WalkLemmas.{diagnosed_fetch_then}
use Rattle.bs_inspect_files.proofs.naming.load_mapped.Goals as goal

pub returns-in_err-bytes : goal.returns-in_err-bytes
returns-in_err-bytes g c =
    let vcds : List (List ℕ) = map (λ s. s.now) c.args.vcds.now in
    let keys : List (List ℕ) = flop_keys c.args.beside.net.now.raw in
    let f : List ℕ → Plan Case (List Comparison) = λ t. names_step c.args.file.now keys t (beside_in c.args.beside) vcds in
    let p = err_from_is_err_and c.from_residual.result c.from_residual.ensures.1 in
    rw (p.1, p.2) (diagnosed_fetch_stop f c.in_err-bytes.ensures)

pub returns : goal.returns
returns g c =
    let vcds : List (List ℕ) = map (λ s. s.now) c.args.vcds.now in
    let keys : List (List ℕ) = flop_keys c.args.beside.net.now.raw in
    let f : List ℕ → Plan Case (List Comparison) = λ t. names_step c.args.file.now keys t (beside_in c.args.beside) vcds in
    diagnosed_fetch_then f c.deref.result.now c.deref.ensures.value c.in_ok-bytes.ensures c.load_renamed.ensures
