use Rattle.std.proofs.Common.{ℕ, List, [], Option, Some, None, Bor, Vec, Ok, length, map, ap, refl, sym, subst, ◌∙◌}
use Rattle.std.specs.Option.{option_map}
use Rattle.bs_outside.specs.Plan.{Plan, end}
use Rattle.bs_top_files.specs.Causes.{Case}
use Rattle.bs_inspect_check.specs.declared.comparison.Comparison.{Comparison}
use Rattle.bs_inspect_files.specs.Checked.{all_of, beside_in}
use Rattle.bs_inspect_values.proofs.WalkLemmas.{diagnosed_want, diagnosed_with}
use Rattle.bs_inspect_files.proofs.NameLemmas.{few_slices}
use Rattle.bs_inspect_files.proofs.naming.load_spelled.Goals as goal

pub load_all-requires-clause-flops : goal.load_all-requires-clause-flops
load_all-requires-clause-flops g c =
    few_slices c.args.names.now c.in-Ok.slices.items c.as_slice-slices.result.now c.as_slice-slices.ensures.value c.in-Ok.ensures c.requires.flops

pub returns-in-Ok : goal.returns-in-Ok
returns-in-Ok g c =
    let keys : List (List ℕ) = map (λ k. k.now) c.args.keys.now in
    let vcds : List (List ℕ) = map (λ s. s.now) c.args.vcds.now in
    let plan : List (List ℕ) → Plan Case (List Comparison) = λ ns. all_of keys ns (beside_in c.args.beside) vcds in
    diagnosed_with plan (map (λ n. n.now) c.as_slice-slices.result.now) c.args.names.now
    (ap (λ (ns : List (Bor (List ℕ))). map (λ n. n.now) ns) c.as_slice-slices.ensures.value ∙ c.in-Ok.ensures) c.load_all.ensures

pub returns-in-Err : goal.returns-in-Err
returns-in-Err g c = diagnosed_want _
