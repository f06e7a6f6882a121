use Rattle.std.proofs.Common.{◌∙◌, sym}
use Rattle.bs_audit.proofs.Follows.{list_holds}
use Rattle.bs_audit.proofs.replay.Replay.list.Goals as goal

pub returns-clause-tried : goal.returns-clause-tried
returns-clause-tried c =
    list_holds c.args.self.now c.args.budgets.now c.args.i c.args.step.now c.in_ok-hit.hit c.dump_of.result
    (rw c.len.ensures at (sym c.is_right_length.ensures ∙ c.if-not-is_right_length.false)) (sym c.is_hit.ensures ∙ c.if-not-is_hit.false)
    (rw c.slice.ensures at c.in_ok-hit.ensures.first) (rw c.slice.ensures at c.in_ok-hit.ensures.dump) c.dump_of.ensures
