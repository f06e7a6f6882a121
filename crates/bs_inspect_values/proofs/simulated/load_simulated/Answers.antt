use Rattle.std.proofs.Common.{ℕ, List, Option, map}
use Rattle.std.specs.Option.{option_map}
use Rattle.bs_outside.specs.Plan.{Plan}
use Rattle.bs_top_files.specs.Causes.{Case}
use Rattle.bs_net.specs.Parts.{Parts}
use Rattle.bs_outside.proofs.TellingLemmas.{diagnosed_stop, diagnosed_then}
use Rattle.bs_inspect_values.specs.Simulated.{Simulated, clocked_in, run_step}
use Rattle.bs_inspect_values.proofs.simulated.load_simulated.Goals as goal

pub returns-in-Ok : goal.returns-in-Ok
returns-in-Ok g c =
    let vcds : List (List ℕ) = map (λ s. s.now) c.args.vcds.now in
    let names : Option (List ℕ) = option_map (λ s. s.now) c.args.names in
    let f : Parts → Plan Case Simulated = λ raw. run_step raw names (clocked_in c.args.at) vcds in
    diagnosed_then f c.in-Ok.ensures c.load_runs.ensures

pub returns-in-Err : goal.returns-in-Err
returns-in-Err g c =
    let vcds : List (List ℕ) = map (λ s. s.now) c.args.vcds.now in
    let names : Option (List ℕ) = option_map (λ s. s.now) c.args.names in
    let f : Parts → Plan Case Simulated = λ raw. run_step raw names (clocked_in c.args.at) vcds in
    diagnosed_stop f c.in-Err.ensures
