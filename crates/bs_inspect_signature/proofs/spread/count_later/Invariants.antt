use Rattle.bs_inspect_signature.proofs.SpreadLemmas.{CountSo}
use Rattle.bs_inspect_signature.proofs.spread.count_later.Given as goal

abbrev pub invariant-runs : goal.invariant-runs
invariant-runs l = CountSo l.runs l.k l.count
