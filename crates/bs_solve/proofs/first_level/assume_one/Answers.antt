use Rattle.bs_solve.proofs.FirstLevels.{assumed_one, one_is_true, assumed_none, assumed_value}
use Rattle.bs_solve.proofs.first_level.assume_one.Goals as goal

pub returns-in-None-clause-took : goal.returns-in-None-clause-took
returns-in-None-clause-took c = assumed_one c.args.watch.now c.assign.new.self c.args.assumption c.assign.ensures.new c.assign.ensures.serves

pub returns-in-None-clause-stands : goal.returns-in-None-clause-stands
returns-in-None-clause-stands c = one_is_true c.args.watch.now c.assign.new.self c.args.assumption c.assign.ensures.new

pub returns-in-Some-clause-took : goal.returns-in-Some-clause-took
returns-in-Some-clause-took c = assumed_none c.args.watch.now _

pub returns-in-Some-clause-stands : goal.returns-in-Some-clause-stands
returns-in-Some-clause-stands c = assumed_value c.args.watch.now c.args.assumption c.in-Some.is_true c.in-Some.ensures
