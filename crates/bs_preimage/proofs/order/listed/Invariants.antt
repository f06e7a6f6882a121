use Rattle.std.proofs.Common.{◌≡◌, ◌++◌}
use Rattle.bs_preimage.proofs.order.listed.Given as goal

abbrev pub invariant-cands : goal.invariant-cands
invariant-cands l = l.cands ++ l.cand-iterator.rest.items ≡ l.fn.found.items
