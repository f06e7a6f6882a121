use Rattle.std.proofs.Common.{ℕ, List, Option, Some, None, Bor, map, sym, ◌∙◌}
use Rattle.std.specs.Option.{option_map}
use Rattle.bs_outside.specs.Plan.{Plan}
use Rattle.bs_top_files.specs.Causes.{Case}
use Rattle.bs_inspect_check.specs.declared.comparison.Comparison.{Comparison}
use Rattle.bs_inspect_report.specs.Keys.{flop_keys}
use Rattle.bs_inspect_files.specs.Checked.{beside_in, named_of}
use Rattle.bs_inspect_values.proofs.WalkLemmas.{diagnosed_with}
use Rattle.bs_inspect_files.proofs.naming.load_named.Goals as goal

pub returns-in-Some : goal.returns-in-Some
returns-in-Some g c =
    let vcds : List (List ℕ) = map (λ s. s.now) c.args.vcds.now in
    let keys : List (List ℕ) = flop_keys c.args.beside.net.now.raw in
    let plan : Option (Bor (List ℕ)) → Plan Case (List Comparison) = λ o. named_of keys (option_map (λ s. s.now) o) (beside_in c.args.beside) vcds in
    diagnosed_with plan _ _ (sym c.in-Some.is) c.load_mapped.ensures

pub returns-in-None : goal.returns-in-None
returns-in-None g c =
    let vcds : List (List ℕ) = map (λ s. s.now) c.args.vcds.now in
    let keys : List (List ℕ) = flop_keys c.args.beside.net.now.raw in
    let plan : Option (Bor (List ℕ)) → Plan Case (List Comparison) = λ o. named_of keys (option_map (λ s. s.now) o) (beside_in c.args.beside) vcds in
    diagnosed_with plan _ _ (sym c.in-None.is) c.load_keyed.ensures
