use Rattle.std.proofs.Common.{◌≡◌, ℕ, List, Ok, length, map, ◌∙◌}
use Rattle.bs_outside.specs.Plan.{Plan}
use Rattle.bs_top_files.specs.Causes.{Case}
use Rattle.std.specs.Prelude.{Bool}
use Rattle.bs_inspect_files.specs.Taken.{run_files_in}
use Rattle.bs_outside.proofs.TellingLemmas.{diagnosed_read, diagnosed_stop, diagnosed_then}
use Rattle.bs_inspect_files.specs.Checked.{all_step, Checked, files_in}
use Rattle.bs_outside.specs.declared.file.File.TheVariants as files
use Rattle.bs_inspect_files.proofs.CountLemmas.{settled_holds}
use Rattle.bs_inspect_files.proofs.checking.load_counted.Goals as goal

pub load_all-requires : goal.load_all-requires
load_all-requires g c =
    settled_holds (length c.args.run_files.runs.runs ≡ length c.args.vcds.now) files.Vcd c.count_or_diagnostic.result _ c.in-Ok.ensures
    c.count_or_diagnostic.ensures.same

pub returns-in-Ok : goal.returns-in-Ok
returns-in-Ok g c =
    let vcds : List (List ℕ) = map (λ s. s.now) c.args.vcds.now in
    let f : Bool → Plan Case Checked = λ fits. all_step (files_in c.args.files) (run_files_in c.args.run_files) vcds in
    diagnosed_then f (diagnosed_read _ _ _ c.in-Ok.ensures c.count_or_diagnostic.ensures.words c.count_or_diagnostic.ensures.note) c.load_all.ensures

pub returns-in-Err : goal.returns-in-Err
returns-in-Err g c =
    let vcds : List (List ℕ) = map (λ s. s.now) c.args.vcds.now in
    let f : Bool → Plan Case Checked = λ fits. all_step (files_in c.args.files) (run_files_in c.args.run_files) vcds in
    diagnosed_stop f (diagnosed_read _ _ _ c.in-Err.ensures c.count_or_diagnostic.ensures.words c.count_or_diagnostic.ensures.note)
