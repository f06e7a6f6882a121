use Rattle.std.proofs.Common.{◌≡◌, not, take, eqb, length}
use Rattle.std.specs.List.{filter, list_any}
use Rattle.bs_rup.specs.LiveClauses.{live_from}
use Rattle.bs_rup.proofs.live_clauses.remove.Given as goal

abbrev pub invariant-loop-id : goal.invariant-loop-id
invariant-loop-id l = record {
  live : live_from 1 l.stored.items ≡ filter (λ e. not (list_any (λ d. eqb e.id d) (take l.id-index l.ids))) (live_from 1 l.fn.stored.items);
  same_length : length l.stored.items ≡ length l.fn.stored.items;
}
