use Rattle.std.proofs.Common.{◌≡◌, take, length}
use Rattle.bs_log.specs.History.{axioms_from}
use Rattle.bs_rup.specs.LiveClauses.{live_from}
use Rattle.bs_rup.proofs.live_clauses.axioms.Given as goal

abbrev pub invariant-loop-c : goal.invariant-loop-c
invariant-loop-c l = record {
  live : live_from 1 l.stored.items ≡ axioms_from 1 (take l.c-index l.clauses);
  same_length : length l.stored.items ≡ l.c-index;
}
