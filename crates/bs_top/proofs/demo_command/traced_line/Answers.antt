use Rattle.bs_scan.specs.Crash.{crash_of}
use Rattle.bs_top_files.specs.Entry.{recording_in}
use Rattle.bs_top_files.specs.Ready.{setup_in}
use Rattle.bs_top.proofs.DemoLemmas.{demo_budget, demo_steps, demo_listed}
use Rattle.bs_top.proofs.ReplyLemmas.{summarises_told}
use Rattle.bs_top.proofs.demo_command.traced_line.Goals as goal

pub report_of-requires : goal.report_of-requires
report_of-requires c = record { dump = c.requires; budgets = demo_budget }

pub line_of-requires : goal.line_of-requires
line_of-requires c =
    let crash = crash_of (recording_in (setup_in c.args.setup.now)) c.args.dump.now in
    record {
      count = demo_steps crash c.in-Ok.report c.in-Ok.ensures.backtrace;
      each = demo_listed crash c.in-Ok.report c.in-Ok.ensures.backtrace;
    }

pub returns-in-Ok : goal.returns-in-Ok
returns-in-Ok c = summarises_told c.args.number _ _ c.in-Ok.ensures.backtrace c.line_of.ensures
