use Rattle.std.proofs.Common.{subst, arith}
use Rattle.bs_solve.specs.Searching.{HasPropagated}
use Rattle.bs_solve.proofs.Pausings.{quiet_resumes, conflict_resumes, conflict_ends}
use Rattle.bs_solve_lemmas.proofs.Endings.{no_lemmas, some_and_last}
use Rattle.bs_solve.proofs.Refutings.{over_at_once}
use Rattle.bs_solve.proofs.cdcl.resume.Goals as goal

pub decide_and_learn-requires-clause-round : goal.decide_and_learn-requires-clause-round
decide_and_learn-requires-clause-round c =
    quiet_resumes c.args.proof.now c.args.limit c.args.watch.now c.propagate.new.watch c.args.arena.now.clauses c.propagate.new.arena.clauses
    c.args.database.now c.requires.pause c.requires.range c.requires.assumed_range c.requires.distinct c.requires.phase c.requires.limit
    (subst (HasPropagated c.args.watch.now c.propagate.new.watch c.args.arena.now.clauses c.propagate.new.arena.clauses) c.in-Quiet.is
    c.in_ok-propagate.ensures)

pub refute-requires-clause-some : goal.refute-requires-clause-some
refute-requires-clause-some c =
    conflict_ends c.args.proof.now c.args.watch.now c.propagate.new.watch c.args.arena.now.clauses c.propagate.new.arena.clauses c.args.database.now
    c.in-Conflict.r c.requires.pause c.requires.range c.requires.distinct
    (subst (HasPropagated c.args.watch.now c.propagate.new.watch c.args.arena.now.clauses c.propagate.new.arena.clauses) c.in-Conflict.is
    c.in_ok-propagate.ensures)
    (let n = c.level.ensures in let few = c.if-level-lt2.true in omega (arith, n, few))

pub returns-then-level-lt2-clause-over : goal.returns-then-level-lt2-clause-over
returns-then-level-lt2-clause-over c =
    let h = subst (HasPropagated c.args.watch.now c.propagate.new.watch c.args.arena.now.clauses c.propagate.new.arena.clauses) c.in-Conflict.is
    c.in_ok-propagate.ensures in
    over_at_once c.args.proof.now c.refute.new.proof c.args.watch.now.trail.vars c.args.limit c.in_ok-id-in-Conflict.id c.propagate.new.watch
    c.refute.new.watch c.refute.new.arena.clauses c.refute.new.database c.requires.limit c.requires.range c.requires.distinct
    c.in_ok-id-in-Conflict.ensures.ok h.advances.vars

pub returns-then-level-lt2-clause-lemmas : goal.returns-then-level-lt2-clause-lemmas
returns-then-level-lt2-clause-lemmas c =
    some_and_last c.args.proof.now c.args.proof.now c.refute.new.proof 0 c.in_ok-id-in-Conflict.id (no_lemmas c.args.proof.now)
    c.in_ok-id-in-Conflict.ensures.ok.refuted

pub decide_and_learn-requires-in-Conflict-clause-round : goal.decide_and_learn-requires-in-Conflict-clause-round
decide_and_learn-requires-in-Conflict-clause-round c =
    conflict_resumes c.args.proof.now c.args.limit c.args.watch.now c.propagate.new.watch c.args.arena.now.clauses c.propagate.new.arena.clauses
    c.args.database.now c.in-Conflict.r c.requires.pause c.requires.range c.requires.assumed_range c.requires.distinct c.requires.phase c.requires.limit
    (subst (HasPropagated c.args.watch.now c.propagate.new.watch c.args.arena.now.clauses c.propagate.new.arena.clauses) c.in-Conflict.is
    c.in_ok-propagate.ensures)
    (let n = c.level.ensures in let deep = c.if-level-lt2.false in omega (arith, n, deep))
