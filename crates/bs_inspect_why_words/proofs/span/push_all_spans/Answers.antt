use Rattle.std.proofs.Common.{arith}
use Rattle.bs_inspect_why_words.specs.Groups.{span_words}
use Rattle.bs_inspect_why_words.proofs.StepLemmas.{step_more}
use Rattle.bs_inspect_why_words.proofs.span.push_all_spans.Goals as goal

pub spans-preserved : goal.spans-preserved
spans-preserved c =
    step_more span_words c.args.spans.now c.spans.span-index _ c.args.text.now.items c.spans.text.items c.push_span.new.text.items
    (omega (arith, c.spans-test.true)) c.spans.invariant c.in_ok-push_span.ensures
