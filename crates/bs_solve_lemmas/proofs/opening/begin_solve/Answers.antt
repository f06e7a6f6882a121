use Rattle.bs_log.specs.declared.line.Line.TheVariants.{Solve}
use Rattle.std.proofs.Common.{sym, subst}
use Rattle.bs_solve_lemmas.specs.Solver.{Follows}
use Rattle.bs_solve_lemmas.proofs.Solving.{follows_same, follows_log}
use Rattle.bs_solve_lemmas.proofs.opening.begin_solve.Goals as goal

pub returns-clause-lines : goal.returns-clause-lines
returns-clause-lines c =
    follows_log c.log_solve.result c.args.first c.args.proof.now c.args.proof.now c.log_solve.new.self c.args.assumptions.now Solve
    c.log_solve.ensures.ok c.log_solve.ensures.err
    (follows_same c.args.first c.args.proof.now c.args.assumptions.now)

pub returns-then-first-clause-lines : goal.returns-then-first-clause-lines
returns-then-first-clause-lines c = subst (λ b. Follows b c.args.proof.now c.begin_first.new.proof c.args.assumptions.now)
    (sym c.if-first.true) c.begin_first.ensures.lines
