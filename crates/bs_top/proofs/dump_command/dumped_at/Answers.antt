use Rattle.std.proofs.Common.{◌≡◌, subst}
use Rattle.std.specs.Prelude.{IfOk}
use Rattle.bs_scan.specs.Crash.{Recording, dump_at}
use Rattle.bs_top.proofs.dump_command.dumped_at.Goals as goal

pub returns-in-Ok : goal.returns-in-Ok
returns-in-Ok c = subst (λ (r : Recording). IfOk c.dumped_by.result (λ dump. dump ≡ dump_at r c.args.moment_files.now.moment)) c.in-Ok.ensures c.dumped_by.ensures
