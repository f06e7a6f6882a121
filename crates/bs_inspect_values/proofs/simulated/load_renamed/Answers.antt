use Rattle.std.proofs.Common.{ℕ, List, Bor, map, ap, ◌∙◌}
use Rattle.bs_outside.specs.Plan.{Plan}
use Rattle.bs_top_files.specs.Causes.{Case}
use Rattle.bs_inspect_report.specs.Keys.{input_keys}
use Rattle.bs_inspect_values.specs.Simulated.{Sampled, clocked_in, sampled_step}
use Rattle.bs_inspect_values.proofs.WalkLemmas.{diagnosed_want, diagnosed_with}
use Rattle.bs_inspect_values.proofs.simulated.load_renamed.Goals as goal

pub returns-in-Ok : goal.returns-in-Ok
returns-in-Ok g c =
    let vcds : List (List ℕ) = map (λ s. s.now) c.args.vcds.now in
    let plan : List (List ℕ) → Plan Case Sampled = λ ks. sampled_step c.args.path.now ks c.args.text.now (clocked_in c.args.at) vcds in
    diagnosed_with plan (map (λ k. k.now) c.as_slice-keys.result.now) (input_keys c.args.net.now.raw)
    (ap (λ (ks : List (Bor (List ℕ))). map (λ k. k.now) ks) c.as_slice-keys.ensures.value ∙ c.in-Ok.ensures) c.load_by_names.ensures

pub returns-in-Err : goal.returns-in-Err
returns-in-Err g c = diagnosed_want _
