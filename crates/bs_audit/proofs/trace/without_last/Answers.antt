use Rattle.std.proofs.Common.{◌∙◌, sym}
use Rattle.bs_audit.proofs.Cuts.{cut_last, uncut_other}
use Rattle.bs_audit.proofs.trace.without_last.Goals as goal

pub returns-then-equals : goal.returns-then-equals
returns-then-equals c =
    cut_last c.args.lists.now c.in-Some.front.now c.in-Some.found.now c.args.last.now c.in-Some.ensures.cases.0 (sym c.equals.ensures.test ∙ c.if-equals.true)

pub returns-else-equals : goal.returns-else-equals
returns-else-equals c =
    uncut_other c.args.lists.now c.in-Some.front.now c.in-Some.found.now c.args.last.now c.in-Some.ensures.cases.0
    (sym c.equals.ensures.test ∙ c.if-equals.false)
