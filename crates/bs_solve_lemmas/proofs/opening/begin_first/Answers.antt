use Rattle.std.proofs.Common.{ap, ◌∙◌, true}
use Rattle.bs_log.specs.declared.line.Line.TheVariants.{Solve}
use Rattle.bs_solve_lemmas.specs.ProofLog.{with_member}
use Rattle.bs_solve_lemmas.proofs.Solving.{follows_member, follows_log}
use Rattle.bs_solve_lemmas.proofs.opening.begin_first.Goals as goal

pub returns-clause-lines : goal.returns-clause-lines
returns-clause-lines c =
    follows_log c.log_solve.result true c.args.proof.now c.add_step.new.self c.log_solve.new.self c.args.assumptions.now Solve c.log_solve.ensures.ok
    c.log_solve.ensures.err
    (follows_member c.args.proof.now c.add_step.new.self c.args.assumptions.now
    (c.in_ok-add_step.ensures.ok ∙ ap (with_member c.args.proof.now) (c.in_ok-member.ensures ∙ c.slice.ensures)))
