use Rattle.std.proofs.Common.{take}
use Rattle.bs_inspect_causes.specs.Accounts.{AreFactsOf}
use Rattle.bs_inspect_causes.proofs.facts.facts_at.Given as goal

abbrev pub invariant-nets : goal.invariant-nets
invariant-nets l = AreFactsOf l.moments (take l.net-index l.nets) l.cycle l.facts
