use Rattle.std.proofs.Common.{arith}
use Rattle.bs_inspect_why_words.specs.Throughout.{still_line}
use Rattle.bs_inspect_why_words.proofs.StepLemmas.{step_item}
use Rattle.bs_inspect_why_words.proofs.throughout.push_all_stills.Goals as goal

pub reasons-preserved : goal.reasons-preserved
reasons-preserved c =
    step_item still_line c.args.reasons.now c.reasons.reason-index c.reason-item.result c.args.text.now.items c.reasons.text.items
    c.push_still.new.text.items (omega (arith, c.reasons-test.true)) c.reason-item.is c.reasons.invariant c.in_ok-push_still.ensures
