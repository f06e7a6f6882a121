use Rattle.bs_inspect_signature.proofs.SpreadLemmas.{PlaceSo}
use Rattle.bs_inspect_signature.proofs.spread.moment_at.Given as goal

abbrev pub invariant-runs : goal.invariant-runs
invariant-runs l = PlaceSo l.runs l.place l.k l.left
