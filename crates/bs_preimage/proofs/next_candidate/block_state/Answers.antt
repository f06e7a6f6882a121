use Rattle.std.proofs.Common.{subst}
use Rattle.bs_clause.specs.Literal.{Clause}
use Rattle.bs_solve_lemmas.specs.Solver.{HasBlocked}
use Rattle.bs_preimage.proofs.TurnLemmas.{blocked_extends}
use Rattle.bs_preimage.proofs.next_candidate.block_state.Goals as goal

pub returns-clause-ok : goal.returns-clause-ok
returns-clause-ok c =
    record {
      id = c.in_ok-_id._id;
      blocked = subst (λ (b : Clause). HasBlocked c.args.solver.now c.block-2.new.self b c.in_ok-_id._id) c.in_ok-clause.ensures c.in_ok-_id.ensures.ok;
    }

pub returns-clause-lines : goal.returns-clause-lines
returns-clause-lines c = blocked_extends _ _ _ _ c.in_ok-_id.ensures.ok
