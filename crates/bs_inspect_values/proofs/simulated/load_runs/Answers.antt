use Rattle.bs_outside.specs.Plan.{Plan}
use Rattle.bs_top_files.specs.Causes.{Case}
use Rattle.bs_outside.specs.Plan.{end}
use Rattle.bs_outside.proofs.TellingLemmas.{diagnosed_end, diagnosed_stop, diagnosed_then}
use Rattle.bs_inspect_values.specs.Simulated.{Sampled, Simulated}
use Rattle.bs_inspect_values.proofs.simulated.load_runs.Goals as goal

pub returns-in-Ok : goal.returns-in-Ok
returns-in-Ok g c =
    let f : Sampled → Plan Case Simulated = λ sampled. end record { raw = c.args.net.raw; sampled = sampled } in
    diagnosed_then f c.in-Ok.ensures diagnosed_end

pub returns-in-Err : goal.returns-in-Err
returns-in-Err g c =
    let f : Sampled → Plan Case Simulated = λ sampled. end record { raw = c.args.net.raw; sampled = sampled } in
    diagnosed_stop f c.in-Err.ensures
