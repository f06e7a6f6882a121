use Rattle.std.proofs.Common.{ℕ, List, Bool, Option}
use Rattle.bs_outside.specs.declared.file.File.TheVariants as files
use Rattle.bs_outside.specs.Plan.{Plan, read_as}
use Rattle.bs_top_files.specs.Causes.{Case}
use Rattle.bs_inspect_values.proofs.WalkLemmas.{diagnosed_with}
use Rattle.bs_inspect_files.specs.Readings.{file_in, pattern_read}
use Rattle.bs_inspect_files.specs.FlopFiles.{bits_from}
use Rattle.bs_inspect_files.proofs.loading.load_word.Goals as goal

pub returns-in-Some : goal.returns-in-Some
returns-in-Some g c =
    let plan : Option (List ℕ) → Plan Case (List Bool) = λ o. bits_from c.args.lines c.args.word.now o in
    diagnosed_with plan _ (file_in c.args.word.now) c.in-Some.ensures c.load_bits_file.ensures

pub returns-in-None : goal.returns-in-None
returns-in-None g c =
    let plan : Option (List ℕ) → Plan Case (List Bool) = λ o. bits_from c.args.lines c.args.word.now o in
    diagnosed_with plan _ (file_in c.args.word.now) c.in-None.ensures
    (diagnosed_with (λ (t : List ℕ). read_as files.State (pattern_read c.args.lines t)) _ _
    c.as_bytes.ensures.value c.load_bits.ensures)
