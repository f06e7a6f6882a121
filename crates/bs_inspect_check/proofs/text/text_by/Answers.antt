use Rattle.bs_inspect_check.proofs.TextLemmas.{tells_check}
use Rattle.bs_inspect_check.proofs.text.text_by.Goals as goal

pub returns-in-Ok : goal.returns-in-Ok
returns-in-Ok c =
    tells_check c.text_of.result c.args.net.now.raw c.args.flops.now c.in-Ok.inputs.items c.as_slice.result.now c.args.comparisons.now
    c.as_slice.ensures.value c.requires.stored c.in-Ok.ensures.are c.text_of.ensures
