use Rattle.std.proofs.Common.{ℕ, List, Bor, map, ap, ◌∙◌}
use Rattle.bs_outside.specs.Plan.{Plan}
use Rattle.bs_top_files.specs.Causes.{Case}
use Rattle.bs_inspect_values.specs.Simulated.{Sampled, clocked_in, sampled_of}
use Rattle.bs_inspect_values.proofs.WalkLemmas.{diagnosed_want, diagnosed_with}
use Rattle.bs_inspect_values.proofs.simulated.load_spelled.Goals as goal

pub returns-in-Ok : goal.returns-in-Ok
returns-in-Ok g c =
    let keys : List (List ℕ) = map (λ k. k.now) c.args.keys.now in
    let vcds : List (List ℕ) = map (λ s. s.now) c.args.vcds.now in
    let plan : List (List ℕ) → Plan Case Sampled = λ ns. sampled_of keys ns (clocked_in c.args.at) vcds in
    diagnosed_with plan (map (λ n. n.now) c.as_slice-slices.result.now) c.args.names.now
    (ap (λ (ns : List (Bor (List ℕ))). map (λ n. n.now) ns) c.as_slice-slices.ensures.value ∙ c.in-Ok.ensures) c.load_sampled.ensures

pub returns-in-Err : goal.returns-in-Err
returns-in-Err g c = diagnosed_want _
