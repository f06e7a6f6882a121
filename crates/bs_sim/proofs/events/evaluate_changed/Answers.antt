use Rattle.bs_sim.proofs.EventLemmas.{still}
use Rattle.std.proofs.Common.{◌∙◌, sym}
use Rattle.bs_sim.proofs.events.evaluate_changed.Goals as goal

pub returns-then-not-is_changed-clause-values : goal.returns-then-not-is_changed-clause-values
returns-then-not-is_changed-clause-values c =
    still _ _ _ c.requires.settled c.requires.unchanged (sym c.is_changed.ensures ∙ c.if-not-is_changed.true)
