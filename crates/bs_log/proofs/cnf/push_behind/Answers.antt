use Rattle.bs_log.specs.Refusal.{history_of}
use Rattle.bs_log.specs.Walk.{problem_in}
use Rattle.bs_log.proofs.Behind.{behind_joined}
use Rattle.bs_log.proofs.cnf.push_behind.Goals as goal

pub returns : goal.returns
returns c =
    behind_joined (problem_in c.args.asked.now) (history_of c.args.asked.now.lines.now) c.args.asked.now.step c.args.text.now.items
    c.push_units.new.text.items c.push_blocks.new.text.items c.push_closed.new.text.items c.push_closed-2.new.text.items
    c.assumptions_at.result.now c.len.result c.push_closed-2.result c.assumptions_at.ensures c.len.ensures c.in_ok-push_units.ensures
    c.in_ok-push_blocks.ensures c.in_ok-push_closed.ensures c.push_closed-2.ensures
