-- What the code has read, as the definitions see it.
use Rattle.bs_top_reach.specs.declared.target.Target.{Target as CodeTarget}
use Rattle.bs_top_reach.specs.Target.{Target}

abbrev pub target_in : CodeTarget → Target
target_in t = record { raw = t.net.raw; state = t.state; cycles = t.cycles }
