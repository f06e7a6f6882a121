use Rattle.std.proofs.Common.{subst, arith}
use Rattle.bs_preimage.specs.Turn.{TurnsTo}
use Rattle.bs_preimage.proofs.FindingLemmas.{below_at_first, below_more, may_turn_again, refuted_sooner, spent_sooner, at_last, under_way_extends, extends_on}
use Rattle.bs_preimage.proofs.enumeration.find_most.Goals as goal

pub turns-init : goal.turns-init
turns-init c = below_at_first _ _ _ _ _ _ c.requires.candidates c.requires.none

pub take_turn-requires-clause-may : goal.take_turn-requires-clause-may
take_turn-requires-clause-may c = may_turn_again _ _ _ c.args.solver.now _ _ c.requires.begun c.requires.may c.turns.invariant.search.way

pub returns-in_err-cand-clause-lines : goal.returns-in_err-cand-clause-lines
returns-in_err-cand-clause-lines c =
    extends_on _ _ _ _ c.turns.solver _ _ c.requires.begun c.turns.invariant.search.way c.take_turn.ensures.lines

pub turns-preserved : goal.turns-preserved
turns-preserved c =
    below_more _ _ _ _ _ _ _ _ c.in-Listed.cand _ c.requires.begun c.turns.invariant
    (subst (TurnsTo c.args.encoding.now c.args.assumptions.now c.args.b c.turns.solver c.take_turn.new.solver) c.in-Listed.is c.in_ok-cand.ensures.ok)
    c.in_ok-push-in-Listed.ensures.items (omega (arith, c.turns-test.true, c.len.ensures))

pub returns-in_err-push-in-Listed-clause-lines : goal.returns-in_err-push-in-Listed-clause-lines
returns-in_err-push-in-Listed-clause-lines c =
    extends_on _ _ _ _ c.turns.solver _ _ c.requires.begun c.turns.invariant.search.way c.take_turn.ensures.lines

pub returns-in-Refuted-clause-ok : goal.returns-in-Refuted-clause-ok
returns-in-Refuted-clause-ok c =
    refuted_sooner _ _ _ _ _ _ _ _ _ c.requires.begun c.turns.invariant
    (subst (TurnsTo c.args.encoding.now c.args.assumptions.now c.args.b c.turns.solver c.take_turn.new.solver) c.in-Refuted.is c.in_ok-cand.ensures.ok)

pub returns-in-Refuted-clause-lines : goal.returns-in-Refuted-clause-lines
returns-in-Refuted-clause-lines c =
    extends_on _ _ _ _ c.turns.solver _ _ c.requires.begun c.turns.invariant.search.way c.take_turn.ensures.lines

pub returns-in-Spent-clause-ok : goal.returns-in-Spent-clause-ok
returns-in-Spent-clause-ok c =
    spent_sooner _ _ _ _ _ _ _ _ c.requires.begun c.turns.invariant
    (subst (TurnsTo c.args.encoding.now c.args.assumptions.now c.args.b c.turns.solver c.take_turn.new.solver) c.in-Spent.is c.in_ok-cand.ensures.ok)

pub returns-in-Spent-clause-lines : goal.returns-in-Spent-clause-lines
returns-in-Spent-clause-lines c =
    extends_on _ _ _ _ c.turns.solver _ _ c.requires.begun c.turns.invariant.search.way c.take_turn.ensures.lines

pub returns-clause-ok : goal.returns-clause-ok
returns-clause-ok c = at_last _ _ _ _ _ _ _ c.turns.invariant (omega (arith, c.turns-test.false, c.len.ensures))

pub returns-clause-lines : goal.returns-clause-lines
returns-clause-lines c = under_way_extends _ _ _ _ _ _ c.turns.invariant.search.way
