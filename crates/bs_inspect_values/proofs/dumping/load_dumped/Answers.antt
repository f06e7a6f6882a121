use Rattle.bs_outside.specs.Plan.{Plan}
use Rattle.bs_top_files.specs.Causes.{Case}
use Rattle.bs_net.specs.Parts.{Parts}
use Rattle.bs_outside.proofs.TellingLemmas.{diagnosed_stop, diagnosed_then}
use Rattle.bs_inspect_values.specs.Dumped.{Dumped, chosen_step, files_in}
use Rattle.bs_inspect_values.proofs.dumping.load_dumped.Goals as goal

pub returns-in-Ok : goal.returns-in-Ok
returns-in-Ok g c =
    let f : Parts → Plan Case Dumped = λ raw. chosen_step (files_in c.args.files) raw (files_in c.args.files).signature in
    diagnosed_then f c.in-Ok.ensures c.load_with.ensures

pub returns-in-Err : goal.returns-in-Err
returns-in-Err g c =
    let f : Parts → Plan Case Dumped = λ raw. chosen_step (files_in c.args.files) raw (files_in c.args.files).signature in
    diagnosed_stop f c.in-Err.ensures
