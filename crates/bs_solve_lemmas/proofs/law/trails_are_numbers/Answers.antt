use Rattle.bs_solve_lemmas.proofs.Numbers.{number_rises, number_grows, number_bounded}
use Rattle.bs_solve_lemmas.proofs.law.trails_are_numbers.Goals as goal

pub returns-clause-rise : goal.returns-clause-rise
returns-clause-rise c = number_rises

pub returns-clause-grow : goal.returns-clause-grow
returns-clause-grow c = number_grows

pub returns-clause-bound : goal.returns-clause-bound
returns-clause-bound c = number_bounded
