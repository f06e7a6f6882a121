use Rattle.std.proofs.Common.{ℕ, List, Bor, map, ap, ◌∙◌}
use Rattle.bs_outside.specs.Plan.{Plan}
use Rattle.bs_top_files.specs.Causes.{Case}
use Rattle.bs_vcd.specs.declared.cycles.MarkedStates.{MarkedStates}
use Rattle.bs_inspect_values.specs.Dumped.{states_of, taking_in}
use Rattle.bs_inspect_values.proofs.DumpedLemmas.{slices_wide}
use Rattle.bs_inspect_values.proofs.WalkLemmas.{diagnosed_want, diagnosed_with}
use Rattle.bs_inspect_values.proofs.dumping.load_spelled.Goals as goal

pub returns-in-Ok-clause-walks : goal.returns-in-Ok-clause-walks
returns-in-Ok-clause-walks g c =
    let keys : List (List ℕ) = map (λ k. k.now) c.args.keys.now in
    let plan : List (List ℕ) → Plan Case MarkedStates = λ ns. states_of keys ns (taking_in c.args.taking) in
    diagnosed_with plan (map (λ n. n.now) c.as_slice-slices.result.now) c.args.names.now
    (ap (λ (ns : List (Bor (List ℕ))). map (λ n. n.now) ns) c.as_slice-slices.ensures.value ∙ c.in-Ok.ensures) c.load_states.ensures.walks

pub returns-in-Ok-clause-wide : goal.returns-in-Ok-clause-wide
returns-in-Ok-clause-wide g c =
    slices_wide c.args.names.now c.in-Ok.slices.items c.as_slice-slices.result.now c.load_states.result c.as_slice-slices.ensures.value c.in-Ok.ensures
    c.load_states.ensures.wide

pub returns-in-Err-clause-walks : goal.returns-in-Err-clause-walks
returns-in-Err-clause-walks g c = diagnosed_want _
