use Rattle.std.proofs.Common.{map}
use Rattle.bs_inspect_values.specs.SimulatedRun.{run_in}
use Rattle.bs_inspect_values.specs.Simulated.{clocked_in}
use Rattle.bs_inspect_values.proofs.SimulatedLemmas.{no_texts, none_left, one_more, one_stops}
use Rattle.bs_inspect_values.proofs.simulated.+load_behind.Goals as goal

pub returns-in-None : goal.returns-in-None
returns-in-None g t c =
    none_left (map (λ k. k.now) c.args.keys.now) (map (λ n. n.now) c.args.names.now) (clocked_in c.args.at) (map run_in c.args.runs.now.items)
    c.args.vcds.now _ (no_texts c.args.vcds.now c.in-None.ensures.cases)

pub returns-in-Ok : goal.returns-in-Ok
returns-in-Ok g t c =
    one_more (map (λ k. k.now) c.args.keys.now) (map (λ n. n.now) c.args.names.now) (clocked_in c.args.at) (map run_in c.args.runs.now.items)
    (map run_in c.load_one.new.runs.items) _ c.args.vcds.now _ _ _ _ c.in-Some.ensures.cases.0 c.in-Ok.ensures c.load_behind.ensures

pub returns-in-Err : goal.returns-in-Err
returns-in-Err g t c =
    one_stops (map (λ k. k.now) c.args.keys.now) (map (λ n. n.now) c.args.names.now) (clocked_in c.args.at) (map run_in c.args.runs.now.items) _ _
    c.args.vcds.now _ _ _ c.in-Some.ensures.cases.0 c.in-Err.ensures
