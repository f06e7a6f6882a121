use Rattle.std.proofs.Common.{ℕ, List, Option, Bor, map, sym}
use Rattle.std.specs.Option.{option_map}
use Rattle.bs_outside.specs.Plan.{Plan}
use Rattle.bs_top_files.specs.Causes.{Case}
use Rattle.bs_inspect_report.specs.Keys.{input_keys}
use Rattle.bs_inspect_values.specs.Simulated.{Sampled, clocked_in, run_of}
use Rattle.bs_inspect_values.proofs.WalkLemmas.{diagnosed_with}
use Rattle.bs_inspect_values.proofs.simulated.load_run.Goals as goal

pub returns-in-Some : goal.returns-in-Some
returns-in-Some g c =
    let vcds : List (List ℕ) = map (λ s. s.now) c.args.vcds.now in
    let plan : Option (Bor (List ℕ)) → Plan Case Sampled =
    λ o. run_of (input_keys c.args.net.now.raw) (option_map (λ s. s.now) o) (clocked_in c.args.at) vcds in
    diagnosed_with plan _ _ (sym c.in-Some.is) c.load_named.ensures

pub returns-in-None : goal.returns-in-None
returns-in-None g c =
    let vcds : List (List ℕ) = map (λ s. s.now) c.args.vcds.now in
    let plan : Option (Bor (List ℕ)) → Plan Case Sampled =
    λ o. run_of (input_keys c.args.net.now.raw) (option_map (λ s. s.now) o) (clocked_in c.args.at) vcds in
    diagnosed_with plan _ _ (sym c.in-None.is) c.load_keyed.ensures
