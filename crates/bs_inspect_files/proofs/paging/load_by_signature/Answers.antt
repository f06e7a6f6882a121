use Rattle.std.proofs.Common.{ℕ, List, map, Some}
use Rattle.bs_scan.specs.Choice.{Chosen}
use Rattle.bs_outside.specs.Plan.{Plan}
use Rattle.bs_top_files.specs.Causes.{Case}
use Rattle.bs_outside.proofs.TellingLemmas.{diagnosed_stop, diagnosed_then}
use Rattle.bs_inspect_files.specs.Paged.{PageFiles, chosen_step}
use Rattle.bs_inspect_files.proofs.paging.load_by_signature.Goals as goal

pub returns-in-Ok : goal.returns-in-Ok
returns-in-Ok g c =
    let f : Chosen → Plan Case PageFiles = λ choice. chosen_step c.args.net.raw (Some choice) c.args.report.now (map (λ s. s.now) c.args.only.now) in
    diagnosed_then f c.in-Ok.ensures.walks c.load_chosen.ensures

pub returns-in-Err : goal.returns-in-Err
returns-in-Err g c =
    let f : Chosen → Plan Case PageFiles = λ choice. chosen_step c.args.net.raw (Some choice) c.args.report.now (map (λ s. s.now) c.args.only.now) in
    diagnosed_stop f c.in-Err.ensures.walks
