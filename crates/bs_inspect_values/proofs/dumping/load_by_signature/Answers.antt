use Rattle.std.proofs.Common.{Some}
use Rattle.bs_outside.specs.Plan.{Plan}
use Rattle.bs_top_files.specs.Causes.{Case}
use Rattle.bs_scan.specs.Choice.{Chosen}
use Rattle.bs_outside.proofs.TellingLemmas.{diagnosed_stop, diagnosed_then}
use Rattle.bs_inspect_values.specs.Dumped.{Dumped, dump_step, files_in}
use Rattle.bs_inspect_values.proofs.dumping.load_by_signature.Goals as goal

pub returns-in-Ok : goal.returns-in-Ok
returns-in-Ok g c =
    let f : Chosen → Plan Case Dumped = λ choice. dump_step (files_in c.args.files) c.args.net.now.raw (Some choice) in
    diagnosed_then f c.in-Ok.ensures.walks c.load_signed.ensures

pub returns-in-Err : goal.returns-in-Err
returns-in-Err g c =
    let f : Chosen → Plan Case Dumped = λ choice. dump_step (files_in c.args.files) c.args.net.now.raw (Some choice) in
    diagnosed_stop f c.in-Err.ensures.walks
