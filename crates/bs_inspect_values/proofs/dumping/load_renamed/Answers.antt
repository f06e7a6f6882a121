use Rattle.std.proofs.Common.{ℕ, List, Bor, map, ap, ◌∙◌}
use Rattle.bs_outside.specs.Plan.{Plan}
use Rattle.bs_top_files.specs.Causes.{Case}
use Rattle.bs_inspect_report.specs.Keys.{flop_keys}
use Rattle.bs_vcd.specs.declared.cycles.MarkedStates.{MarkedStates}
use Rattle.bs_inspect_values.specs.Dumped.{states_step, taking_in}
use Rattle.bs_inspect_values.proofs.DumpedLemmas.{flops_wide}
use Rattle.bs_inspect_values.proofs.WalkLemmas.{diagnosed_want, diagnosed_with}
use Rattle.bs_inspect_values.proofs.dumping.load_renamed.Goals as goal

pub returns-in-Ok-clause-walks : goal.returns-in-Ok-clause-walks
returns-in-Ok-clause-walks g c =
    let plan : List (List ℕ) → Plan Case MarkedStates = λ ks. states_step c.args.path.now ks c.args.text.now (taking_in c.args.taking) in
    diagnosed_with plan (map (λ k. k.now) c.as_slice-keys.result.now) (flop_keys c.args.net.now.raw)
    (ap (λ (ks : List (Bor (List ℕ))). map (λ k. k.now) ks) c.as_slice-keys.ensures.value ∙ c.in-Ok.ensures) c.load_by_names.ensures.walks

pub returns-in-Ok-clause-wide : goal.returns-in-Ok-clause-wide
returns-in-Ok-clause-wide g c =
    flops_wide _ c.as_slice-keys.result.now c.args.net.now.raw c.load_by_names.result c.as_slice-keys.ensures.value c.in-Ok.ensures
    c.load_by_names.ensures.wide

pub returns-in-Err-clause-walks : goal.returns-in-Err-clause-walks
returns-in-Err-clause-walks g c = diagnosed_want _
