use Rattle.std.proofs.Common.{ℕ, List, [], Vec, map, refl}
use Rattle.std.specs.declared.alloc.Global.{Global}
use Rattle.bs_outside.specs.Plan.{Plan, end}
use Rattle.bs_outside.proofs.TellingLemmas.{diagnosed_stop, diagnosed_then}
use Rattle.bs_top_files.specs.Causes.{Case}
use Rattle.bs_inspect_check.specs.declared.comparison.Comparison.{Comparison}
use Rattle.bs_inspect_files.specs.Checked.{all_behind, beside_in}
use Rattle.bs_inspect_values.proofs.WalkLemmas.{diagnosed_ends, diagnosed_with}
use Rattle.bs_inspect_files.proofs.comparing.load_all.Goals as goal

pub returns-in-Ok : goal.returns-in-Ok
returns-in-Ok g c =
    let keys : List (List ℕ) = map (λ k. k.now) c.args.keys.now in
    let names : List (List ℕ) = map (λ n. n.now) c.args.names.now in
    let vcds : List (List ℕ) = map (λ s. s.now) c.args.vcds.now in
    let f : List Comparison → Plan Case (List Comparison) = λ comparisons. end comparisons in
    diagnosed_then f
    (diagnosed_with (λ (old : List Comparison). all_behind keys names (beside_in c.args.beside) old vcds)
    _ [] c.new-comparisons.ensures.items c.in-Ok.ensures)
    (diagnosed_ends (λ (ms : Vec Comparison Global). ms.items) _ _ refl)

pub returns-in-Err : goal.returns-in-Err
returns-in-Err g c =
    let keys : List (List ℕ) = map (λ k. k.now) c.args.keys.now in
    let names : List (List ℕ) = map (λ n. n.now) c.args.names.now in
    let vcds : List (List ℕ) = map (λ s. s.now) c.args.vcds.now in
    let f : List Comparison → Plan Case (List Comparison) = λ comparisons. end comparisons in
    diagnosed_stop f
    (diagnosed_with (λ (old : List Comparison). all_behind keys names (beside_in c.args.beside) old vcds)
    _ [] c.new-comparisons.ensures.items c.in-Err.ensures)
