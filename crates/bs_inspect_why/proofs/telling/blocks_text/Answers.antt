use Rattle.bs_inspect_why.proofs.TellingLemmas.{blocks_are}
use Rattle.bs_inspect_why.proofs.telling.blocks_text.Goals as goal

pub returns : goal.returns
returns c =
    blocks_are c.args.moments.now c.args.asked.now.report.now c.args.asked.now.question.now.all c.limits_of.result c.in_ok-stills.stills.items
    c.as_slice.result.now c.args.accounts.now c.in_ok-text.text.items c.in_ok-stills.ensures c.as_slice.ensures.value c.limits_of.ensures
    c.in_ok-text.ensures
