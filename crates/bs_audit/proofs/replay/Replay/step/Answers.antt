use Rattle.std.proofs.Common.{◌∙◌, sym}
use Rattle.std.specs.Prelude.{option_map}
use Rattle.bs_scan.specs.Present.{present_in}
use Rattle.bs_audit.proofs.Follows.{right_widths, tried_begin, tried_cands, tried_lists}
use Rattle.bs_audit.proofs.replay.Replay.step.Goals as goal

pub list-requires-clause-widths : goal.list-requires-clause-widths
list-requires-clause-widths c =
    rw c.in_ok-part-in-None.ensures.kept
    (right_widths c.args.self.now c.args.budgets.now c.args.i c.args.step.now (sym c.in_ok-part-in-None.ensures.part ∙ c.in-None-2.is))

pub returns-in-Some-clause-tried : goal.returns-in-Some-clause-tried
returns-in-Some-clause-tried c =
    tried_begin c.args.self.now c.args.budgets.now c.args.i (option_map present_in c.args.due.now) c.args.step.now c.in-Some.part
    (sym c.in-Some.is ∙ c.wrong_begin.ensures)

pub returns-in-Some-2-clause-tried : goal.returns-in-Some-2-clause-tried
returns-in-Some-2-clause-tried c =
    tried_cands c.args.self.now c.args.budgets.now c.args.i (option_map present_in c.args.due.now) c.args.step.now c.in-Some-2.part
    (sym c.in-None.is ∙ c.wrong_begin.ensures)
    (sym c.in-Some-2.is ∙ c.in_ok-part-in-None.ensures.part)

pub returns-in-None-2-clause-tried : goal.returns-in-None-2-clause-tried
returns-in-None-2-clause-tried c =
    tried_lists c.args.self.now c.wrong_candidate.new.self c.in_ok-part-in-None.ensures.kept c.args.budgets.now c.args.i
    (option_map present_in c.args.due.now) c.args.step.now c.list.result
    (sym c.in-None.is ∙ c.wrong_begin.ensures) (sym c.in-None-2.is ∙ c.in_ok-part-in-None.ensures.part) c.list.ensures.tried
