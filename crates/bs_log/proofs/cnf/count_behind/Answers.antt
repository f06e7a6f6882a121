use Rattle.std.proofs.Common.{◌≡◌, ◌+◌, ◌-◌, length, ap, arith}
use Rattle.bs_log.specs.Refusal.{assumptions_of, history_of}
use Rattle.bs_log.specs.Refutation.{blocks_of}
use Rattle.bs_log.specs.Cnf.{behind}
use Rattle.bs_log.specs.Walk.{problem_in}
use Rattle.bs_log.proofs.Lines.{by_is}
use Rattle.bs_log.proofs.cnf.count_behind.Goals as goal

pub returns : goal.returns
returns c =
    let many : length (behind (problem_in c.args.asked.now) (history_of c.args.asked.now.lines.now) c.args.asked.now.step)
    ≡ length (assumptions_of (problem_in c.args.asked.now) c.args.asked.now.step)
    + (length (blocks_of (history_of c.args.asked.now.lines.now) c.args.asked.now.step) + (length c.args.asked.now.steps.now - 1)) =
    by_is (problem_in c.args.asked.now) (history_of c.args.asked.now.lines.now) c.args.asked.now.step c.requires.step.0 c.requires.step.1 in
    omega (arith, many, c.count_blocks-blocks.ensures.count, ap length c.assumptions_at.ensures, c.len.ensures)
