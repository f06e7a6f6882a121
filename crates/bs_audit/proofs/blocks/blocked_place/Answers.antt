use Rattle.bs_report.specs.Step.{listed}
use Rattle.bs_audit.proofs.BlockLemmas.{not_due_none, due_place}
use Rattle.bs_audit.proofs.blocks.blocked_place.Goals as goal

pub returns-in-None : goal.returns-in-None
returns-in-None c =
    not_due_none c.args.encoding.now c.args.activation (listed c.args.cands.now) c.args.clause.now c.args.width c.requires.width c.requires.widths
    (rw c.in-None.is at c.in_ok-blocked_state.ensures)

pub returns-in-Some : goal.returns-in-Some
returns-in-Some c =
    due_place c.args.encoding.now c.args.activation
    (listed c.args.cands.now) c.args.clause.now c.in-Some.state c.args.width c.place_of.result c.requires.width c.requires.widths
    (rw c.in-Some.is at c.in_ok-blocked_state.ensures) c.place_of.ensures
