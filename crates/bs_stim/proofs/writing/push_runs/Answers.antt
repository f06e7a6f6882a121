use Rattle.std.proofs.Common.{arith}
use Rattle.bs_stim.specs.StimulusText.{run_text}
use Rattle.bs_stim.proofs.WritingLemmas.{one_more_piece}
use Rattle.bs_stim.proofs.writing.push_runs.Goals as goal

pub runs-preserved : goal.runs-preserved
runs-preserved c =
    one_more_piece run_text c.args.runs.now c.runs.run-index c.run-item.result c.args.into.now.items c.runs.into.items c.push_run.new.into.items
    (omega (arith, c.runs-test.true)) c.run-item.is c.runs.invariant c.in_ok-push_run.ensures.ok
