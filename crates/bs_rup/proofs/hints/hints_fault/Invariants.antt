use Rattle.std.proofs.Common.{◌≡◌, drop, List}
use Rattle.bs_clause.specs.Literal.{Literal}
use Rattle.bs_log.specs.Propagation.{after_hints, ends_false}
use Rattle.bs_log.specs.Refusal.{clauses_of}
use Rattle.bs_rup.specs.LiveClauses.{live_from}
use Rattle.bs_rup.proofs.hints.hints_fault.Given as goal

-- the hints from i on go on from the values as all of them do from the start
abbrev pub invariant-loop-i : goal.invariant-loop-i
invariant-loop-i l = record {
  after : after_hints l.fn.trail (clauses_of (live_from 1 l.stored) l.hints) ≡ after_hints l.trail (clauses_of (live_from 1 l.stored) (drop l.i l.hints));
  ends : (trues : List Literal) →
      ends_false (clauses_of (live_from 1 l.stored) l.hints) trues ≡ ends_false (clauses_of (live_from 1 l.stored) (drop l.i l.hints)) trues;
}
