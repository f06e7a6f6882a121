use Rattle.bs_solve.proofs.FirstLevels.{value_is, open_is}
use Rattle.bs_solve.proofs.value.is_true.Goals as goal

pub returns-in-Some : goal.returns-in-Some
returns-in-Some c = value_is c.args.watch.now c.args.l c.in-Some.is_true c.holds_levels.ensures.apart c.in-Some.ensures

pub returns-in-None : goal.returns-in-None
returns-in-None c = open_is c.args.watch.now c.args.l c.in-None.ensures
