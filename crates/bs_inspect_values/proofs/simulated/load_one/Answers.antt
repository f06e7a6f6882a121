use Rattle.std.proofs.Common.{List, map}
use Rattle.bs_outside.specs.Plan.{Plan}
use Rattle.bs_top_files.specs.Causes.{Case}
use Rattle.bs_vcd.specs.declared.clock_edges.SampledLines.{SampledLines}
use Rattle.bs_outside.specs.Plan.{end}
use Rattle.bs_outside.proofs.TellingLemmas.{diagnosed_stop, diagnosed_then}
use Rattle.bs_inspect_values.specs.SimulatedRun.{SimulatedRun, run_in, simulated}
use Rattle.std.specs.Prelude.{◌++◌, ◌∷◌, []}
use Rattle.bs_inspect_values.proofs.WalkLemmas.{diagnosed_put}
use Rattle.bs_inspect_values.proofs.simulated.load_one.Goals as goal

pub returns-in-Ok : goal.returns-in-Ok
returns-in-Ok g c =
    let old : List SimulatedRun = map run_in c.args.runs.now.items in
    let f : SampledLines → Plan Case (List SimulatedRun) = λ sampled. end (old ++ simulated c.args.vcd.now sampled ∷ []) in
    diagnosed_then f c.in-Ok.ensures (diagnosed_put _ _ _ c.put_or_stop.ensures.done c.put_or_stop.ensures.want)

pub returns-in-Err : goal.returns-in-Err
returns-in-Err g c =
    let old : List SimulatedRun = map run_in c.args.runs.now.items in
    let f : SampledLines → Plan Case (List SimulatedRun) = λ sampled. end (old ++ simulated c.args.vcd.now sampled ∷ []) in
    diagnosed_stop f c.in-Err.ensures
