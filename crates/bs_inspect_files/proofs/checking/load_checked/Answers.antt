use Rattle.std.proofs.Common.{ℕ, List, Ok, map, ◌∙◌}
use Rattle.bs_outside.specs.Plan.{Plan}
use Rattle.bs_top_files.specs.Causes.{Case}
use Rattle.bs_inspect_files.specs.Taken.{RunFiles}
use Rattle.bs_outside.proofs.TellingLemmas.{diagnosed_stop, diagnosed_then}
use Rattle.bs_inspect_files.specs.Checked.{Checked, checked_step, files_in}
use Rattle.bs_inspect_files.proofs.checking.load_checked.Goals as goal

pub returns-in-Ok : goal.returns-in-Ok
returns-in-Ok g c =
    let vcds : List (List ℕ) = map (λ s. s.now) c.args.vcds.now in
    let f : RunFiles → Plan Case Checked = λ r. checked_step (files_in c.args.files) r vcds in
    diagnosed_then f c.in-Ok.ensures c.load_counted.ensures

pub returns-in-Err : goal.returns-in-Err
returns-in-Err g c =
    let vcds : List (List ℕ) = map (λ s. s.now) c.args.vcds.now in
    let f : RunFiles → Plan Case Checked = λ r. checked_step (files_in c.args.files) r vcds in
    diagnosed_stop f c.in-Err.ensures
