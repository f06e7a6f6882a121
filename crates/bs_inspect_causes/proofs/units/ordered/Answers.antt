use Rattle.bs_inspect_causes.proofs.UnitLemmas.{ordered_keeps}
use Rattle.bs_inspect_causes.proofs.units.ordered.Goals as goal

pub returns : goal.returns
returns c = ordered_keeps _ _ _ _ c.in_ok-sorted.ensures c.as_slice.ensures.value c.in_ok-kept.ensures
