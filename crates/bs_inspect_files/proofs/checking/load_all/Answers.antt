use Rattle.std.proofs.Common.{List, Ok, ◌∙◌}
use Rattle.bs_outside.specs.Plan.{Plan, end}
use Rattle.bs_top_files.specs.Causes.{Case}
use Rattle.bs_inspect_check.specs.declared.comparison.Comparison.{Comparison}
use Rattle.bs_outside.proofs.TellingLemmas.{diagnosed_end, diagnosed_stop, diagnosed_then}
use Rattle.bs_inspect_files.specs.Checked.{Checked}
use Rattle.bs_inspect_files.proofs.checking.load_all.Goals as goal

pub returns-in-Ok : goal.returns-in-Ok
returns-in-Ok g c =
    let f : List Comparison → Plan Case Checked = λ ms. end record { raw = c.args.run_files.net.raw; comparisons = ms } in
    diagnosed_then f c.in-Ok.ensures diagnosed_end

pub returns-in-Err : goal.returns-in-Err
returns-in-Err g c =
    let f : List Comparison → Plan Case Checked = λ ms. end record { raw = c.args.run_files.net.raw; comparisons = ms } in
    diagnosed_stop f c.in-Err.ensures
