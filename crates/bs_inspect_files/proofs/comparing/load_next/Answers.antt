use Rattle.std.proofs.Common.{ℕ, List, [], ◌∷◌, ◌++◌, ◌+◌, ◌≡◌, length, map, ◌∙◌, arith}
use Rattle.bs_top_files.specs.Causes.{Case}
use Rattle.bs_outside.specs.Plan.{Plan, end}
use Rattle.bs_outside.proofs.TellingLemmas.{diagnosed_stop, diagnosed_then}
use Rattle.bs_inspect_check.specs.declared.comparison.Comparison.{Comparison}
use Rattle.bs_inspect_files.specs.Checked.{beside_in, one_of}
use Rattle.bs_inspect_values.proofs.WalkLemmas.{diagnosed_put, diagnosed_with}
use Rattle.bs_inspect_files.proofs.comparing.load_next.Goals as goal

pub returns-in-Ok-clause-walks : goal.returns-in-Ok-clause-walks
returns-in-Ok-clause-walks g c =
    let keys : List (List ℕ) = map (λ k. k.now) c.args.keys.now in
    let names : List (List ℕ) = map (λ n. n.now) c.args.names.now in
    let old : List Comparison = c.args.comparisons.now.items in
    let f : Comparison → Plan Case (List Comparison) = λ m. end (old ++ m ∷ []) in
    let count : c.len.result + 1 ≡ length old + 1 = omega (arith, c.len.ensures, c.args.comparisons.now.ok.0) in
    diagnosed_then f
    (diagnosed_with (λ (n : ℕ). one_of keys names (beside_in c.args.beside) n c.args.vcd.now)
    _ (length old + 1) count c.in-Ok.ensures)
    (diagnosed_put _ _ _ c.put_or_stop.ensures.done c.put_or_stop.ensures.want)

pub returns-in-Err-clause-walks : goal.returns-in-Err-clause-walks
returns-in-Err-clause-walks g c =
    let keys : List (List ℕ) = map (λ k. k.now) c.args.keys.now in
    let names : List (List ℕ) = map (λ n. n.now) c.args.names.now in
    let old : List Comparison = c.args.comparisons.now.items in
    let f : Comparison → Plan Case (List Comparison) = λ m. end (old ++ m ∷ []) in
    let count : c.len.result + 1 ≡ length old + 1 = omega (arith, c.len.ensures, c.args.comparisons.now.ok.0) in
    diagnosed_stop f
    (diagnosed_with (λ (n : ℕ). one_of keys names (beside_in c.args.beside) n c.args.vcd.now)
    _ (length old + 1) count c.in-Err.ensures)
