use Rattle.std.proofs.Common.{[]}
use Rattle.bs_preimage.proofs.TurnLemmas.{known_blocked, follows_extends, extends_then}
use Rattle.bs_preimage.proofs.next_candidate.block_known.Goals as goal

pub returns-clause-ok : goal.returns-clause-ok
returns-clause-ok c = known_blocked _ _ _ _ c.solve_unsearched.new.self _ c.in_ok-solve_unsearched.ensures.ok c.in_ok-block_state.ensures.ok

pub returns-clause-lines : goal.returns-clause-lines
returns-clause-lines c =
    extends_then _ _ c.solve_unsearched.new.self.proof _ _ [] (follows_extends _ _ _ _ c.in_ok-solve_unsearched.ensures.lines) c.block_state.ensures.lines

pub returns-in_err-block_state-clause-lines : goal.returns-in_err-block_state-clause-lines
returns-in_err-block_state-clause-lines c =
    extends_then _ _ c.solve_unsearched.new.self.proof _ _ [] (follows_extends _ _ _ _ c.in_ok-solve_unsearched.ensures.lines) c.block_state.ensures.lines
