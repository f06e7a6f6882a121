use Rattle.bs_loop.proofs.HitInputLemmas.{ends_as_recorded}
use Rattle.bs_loop.proofs.law.traces_end_as_recorded.Goals as goal

pub returns : goal.returns
returns c = ends_as_recorded
