use Rattle.std.proofs.Common.{ℕ, List, Bool, ◌∙◌}
use Rattle.bs_outside.specs.declared.file.File.TheVariants as files
use Rattle.bs_outside.specs.Plan.{Plan, read_as}
use Rattle.bs_top_files.specs.Causes.{Case}
use Rattle.bs_inspect_files.specs.Readings.{joined, pattern_read}
use Rattle.bs_inspect_values.proofs.WalkLemmas.{diagnosed_want, diagnosed_with}
use Rattle.bs_inspect_files.proofs.loading.load_joined.Goals as goal

pub returns-in-Ok : goal.returns-in-Ok
returns-in-Ok g c =
    let plan : List ℕ → Plan Case (List Bool) = λ t. read_as files.State (pattern_read c.args.lines t) in
    diagnosed_with plan c.as_slice.result.now (joined c.args.text.now) (c.as_slice.ensures.value ∙ c.in-Ok.ensures) c.load_bits.ensures

pub returns-in-Err : goal.returns-in-Err
returns-in-Err g c = diagnosed_want _
