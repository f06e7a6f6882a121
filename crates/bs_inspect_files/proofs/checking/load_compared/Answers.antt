use Rattle.std.proofs.Common.{ℕ, List, Option, map, ◌∙◌}
use Rattle.std.specs.Option.{option_map}
use Rattle.bs_inspect_report.specs.Keys.{flop_keys}
use Rattle.bs_inspect_values.specs.Dumped.{clock_or}
use Rattle.bs_inspect_values.proofs.WalkLemmas.{diagnosed_with}
use Rattle.bs_inspect_files.specs.Checked.{Beside, named_of}
use Rattle.bs_inspect_files.proofs.checking.load_compared.Goals as goal

pub returns : goal.returns
returns g c =
    let vcds : List (List ℕ) = map (λ s. s.now) c.args.vcds.now in
    let keys : List (List ℕ) = flop_keys c.args.run_files.now.net.raw in
    let names : Option (List ℕ) = option_map (λ s. s.now) c.args.files.names in
    let at : List ℕ → Beside =
    λ clock. record { raw = c.args.run_files.now.net.raw; runs = c.args.run_files.now.runs; clock = clock; scope = option_map (λ s. s.now) c.args.files.scope } in
    diagnosed_with (λ (k : List ℕ). named_of keys names (at k) vcds) _ _ c.clock_or.ensures c.load_named.ensures
