use Rattle.std.proofs.Common.{ℕ, List, map, ap}
use Rattle.bs_outside.specs.Plan.{Plan}
use Rattle.bs_top_files.specs.Causes.{Case}
use Rattle.std.proofs.Common.{[]}
use Rattle.bs_outside.specs.Plan.{end}
use Rattle.bs_outside.proofs.TellingLemmas.{diagnosed_stop, diagnosed_then}
use Rattle.bs_inspect_values.specs.SimulatedRun.{SimulatedRun, is_data, run_in}
use Rattle.bs_inspect_values.specs.Simulated.{Sampled, clocked_in, runs_behind, sampled_in}
use Rattle.bs_inspect_values.proofs.WalkLemmas.{diagnosed_ends, diagnosed_with}
use Rattle.bs_inspect_values.proofs.simulated.load_sampled.Goals as goal

pub returns-in-Ok : goal.returns-in-Ok
returns-in-Ok g c =
    let keys : List (List ℕ) = map (λ k. k.now) c.args.keys.now in
    let names : List (List ℕ) = map (λ n. n.now) c.args.names.now in
    let vcds : List (List ℕ) = map (λ s. s.now) c.args.vcds.now in
    let f : List SimulatedRun → Plan Case Sampled = λ runs. end record { data_clock = is_data c.args.at.clock.now names; runs = runs } in
    diagnosed_then f
    (diagnosed_with (λ (old : List SimulatedRun). runs_behind keys names (clocked_in c.args.at) old vcds) _ [] (ap (map run_in) c.new-runs.ensures.items) c.in-Ok.ensures)
    (diagnosed_ends sampled_in _ _ (λ i. record { data_clock = c.is_data-data_clock.ensures i; runs = map run_in c.load_behind.new.runs.items }))

pub returns-in-Err : goal.returns-in-Err
returns-in-Err g c =
    let keys : List (List ℕ) = map (λ k. k.now) c.args.keys.now in
    let names : List (List ℕ) = map (λ n. n.now) c.args.names.now in
    let vcds : List (List ℕ) = map (λ s. s.now) c.args.vcds.now in
    let f : List SimulatedRun → Plan Case Sampled = λ runs. end record { data_clock = is_data c.args.at.clock.now names; runs = runs } in
    diagnosed_stop f
    (diagnosed_with (λ (old : List SimulatedRun). runs_behind keys names (clocked_in c.args.at) old vcds) _ [] (ap (map run_in) c.new-runs.ensures.items) c.in-Err.ensures)
