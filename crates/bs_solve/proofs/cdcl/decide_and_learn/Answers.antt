use Rattle.std.proofs.Common.{◌≤◌, ◌+◌, length, sym, subst, arith}
use Rattle.bs_solve_lemmas.specs.Marks.{IsClear}
use Rattle.bs_solve_lemmas.specs.declared.answer.Answer.TheVariants.{Found, Refuted, Spent}
use Rattle.bs_solve_lemmas.specs.Ending.{SomeLemmas}
use Rattle.bs_solve_lemmas.proofs.Endings.{some_lemmas, some_and_last}
use Rattle.bs_solve.specs.Searching.{IsSomeRound, IsOver}
use Rattle.bs_solve.proofs.Rounds.{conflict_in, first_conflict_in, round_decides, round_learns}
use Rattle.bs_solve.proofs.Refutings.{over_found, over_spent, over_refuted, logged_after}
use Rattle.bs_solve.proofs.cdcl.decide_and_learn.Goals as goal

pub returns-then-not-decide-clause-over : goal.returns-then-not-decide-clause-over
returns-then-not-decide-clause-over c =
    let (base, t) = subst (IsSomeRound c.args.proof.now c.vars-vars.result c.rounds.conflicts c.args.limit c.rounds.proof c.rounds.watch c.rounds.arena.clauses
    c.rounds.database) c.in-Quiet.is c.rounds.invariant.round in
    let d = c.if-not-decide.ensures in
    subst (λ n. IsOver c.args.proof.now c.rounds.proof n c.args.limit c.decide.new.watch c.rounds.arena.clauses c.rounds.database
    (Found c.in_ok-assignment-in-Quiet.assignment)) c.vars-vars.ensures
    (over_found c.args.proof.now c.vars-vars.result base c.rounds.conflicts c.args.limit c.rounds.proof c.rounds.watch c.decide.new.watch
    c.rounds.arena.clauses c.rounds.database c.in_ok-assignment-in-Quiet.assignment t d.0 d.1 c.in_ok-assignment-in-Quiet.ensures)

pub returns-then-not-decide-clause-lemmas : goal.returns-then-not-decide-clause-lemmas
returns-then-not-decide-clause-lemmas c =
    let (base, t) = subst (IsSomeRound c.args.proof.now c.vars-vars.result c.rounds.conflicts c.args.limit c.rounds.proof c.rounds.watch c.rounds.arena.clauses
    c.rounds.database) c.in-Quiet.is c.rounds.invariant.round in
    some_lemmas c.args.proof.now c.rounds.proof c.rounds.conflicts t.search.logged

pub returns-in_err-outcome-in-Quiet-clause-lemmas : goal.returns-in_err-outcome-in-Quiet-clause-lemmas
returns-in_err-outcome-in-Quiet-clause-lemmas c =
    let (base, t) = subst (IsSomeRound c.args.proof.now c.vars-vars.result c.rounds.conflicts c.args.limit c.rounds.proof c.rounds.watch c.rounds.arena.clauses
    c.rounds.database) c.in-Quiet.is c.rounds.invariant.round in
    some_lemmas c.args.proof.now c.rounds.proof c.rounds.conflicts t.search.logged

pub rounds-preserved-in-Quiet : goal.rounds-preserved-in-Quiet
rounds-preserved-in-Quiet c =
    let (base, t) = subst (IsSomeRound c.args.proof.now c.vars-vars.result c.rounds.conflicts c.args.limit c.rounds.proof c.rounds.watch c.rounds.arena.clauses
    c.rounds.database) c.in-Quiet.is c.rounds.invariant.round in
    let p = c.in_ok-outcome-in-Quiet.ensures in
    let round = round_decides c.args.proof.now c.vars-vars.result base c.rounds.conflicts c.args.limit
    (length c.decide.new.watch.levels) c.rounds.proof c.rounds.watch c.decide.new.watch c.propagate.new.watch
    c.rounds.arena.clauses c.propagate.new.arena.clauses c.rounds.database c.in_ok-outcome-in-Quiet.outcome t c.if-not-decide.ensures p.advances p.levels
    p.serves p.apart p.ends in
    record {
      round = (base, round);
      vars = round.vars_is;
      clear = c.rounds.invariant.clear;
      room = subst (λ n. length c.propagate.new.watch.trail.places ≤ n) round.vars_is p.room;
    }

pub refute-requires-clause-some : goal.refute-requires-clause-some
refute-requires-clause-some c =
    let (base, t) = subst (IsSomeRound c.args.proof.now c.vars-vars.result c.rounds.conflicts c.args.limit c.rounds.proof c.rounds.watch c.rounds.arena.clauses
    c.rounds.database) c.in-Conflict.is c.rounds.invariant.round in (
      base,
      first_conflict_in c.args.proof.now c.vars-vars.result base c.rounds.conflicts c.args.limit c.rounds.proof c.rounds.watch c.rounds.arena.clauses
          c.rounds.database c.in-Conflict.r t
          (let n = c.level.ensures in let few = c.if-level-lt2.true in omega (arith, n, few)),
    )

pub returns-in_err-id-in-Conflict-clause-lemmas : goal.returns-in_err-id-in-Conflict-clause-lemmas
returns-in_err-id-in-Conflict-clause-lemmas c =
    let (base, t) = subst (IsSomeRound c.args.proof.now c.vars-vars.result c.rounds.conflicts c.args.limit c.rounds.proof c.rounds.watch c.rounds.arena.clauses
    c.rounds.database) c.in-Conflict.is c.rounds.invariant.round in
    subst (SomeLemmas c.args.proof.now) (sym c.in_err-id-in-Conflict.ensures.err) (some_lemmas c.args.proof.now c.rounds.proof c.rounds.conflicts t.search.logged)

pub returns-then-level-lt2-clause-over : goal.returns-then-level-lt2-clause-over
returns-then-level-lt2-clause-over c =
    let (base, t) = subst (IsSomeRound c.args.proof.now c.vars-vars.result c.rounds.conflicts c.args.limit c.rounds.proof c.rounds.watch c.rounds.arena.clauses
    c.rounds.database) c.in-Conflict.is c.rounds.invariant.round in
    subst (λ n. IsOver c.args.proof.now c.refute.new.proof n c.args.limit c.refute.new.watch c.refute.new.arena.clauses c.refute.new.database
    (Refuted c.in_ok-id-in-Conflict.id)) c.vars-vars.ensures
    (over_refuted c.args.proof.now c.vars-vars.result base c.rounds.conflicts c.args.limit c.in-Conflict.r c.in_ok-id-in-Conflict.id c.rounds.proof
    c.refute.new.proof c.rounds.watch c.refute.new.watch
    c.rounds.arena.clauses c.refute.new.arena.clauses c.rounds.database c.refute.new.database t c.in_ok-id-in-Conflict.ensures.ok)

pub returns-then-level-lt2-clause-lemmas : goal.returns-then-level-lt2-clause-lemmas
returns-then-level-lt2-clause-lemmas c =
    let (base, t) = subst (IsSomeRound c.args.proof.now c.vars-vars.result c.rounds.conflicts c.args.limit c.rounds.proof c.rounds.watch c.rounds.arena.clauses
    c.rounds.database) c.in-Conflict.is c.rounds.invariant.round in
    let e = c.in_ok-id-in-Conflict.ensures.ok in
    some_and_last c.args.proof.now c.rounds.proof c.refute.new.proof c.rounds.conflicts c.in_ok-id-in-Conflict.id t.search.logged e.refuted

pub returns-in_err-learn-in-Conflict-clause-lemmas : goal.returns-in_err-learn-in-Conflict-clause-lemmas
returns-in_err-learn-in-Conflict-clause-lemmas c =
    let (base, t) = subst (IsSomeRound c.args.proof.now c.vars-vars.result c.rounds.conflicts c.args.limit c.rounds.proof c.rounds.watch c.rounds.arena.clauses
    c.rounds.database) c.in-Conflict.is c.rounds.invariant.round in
    subst (SomeLemmas c.args.proof.now) (sym c.in_err-learn-in-Conflict.ensures.err) (some_lemmas c.args.proof.now c.rounds.proof c.rounds.conflicts t.search.logged)

pub returns-then-conflicts-limit-clause-over : goal.returns-then-conflicts-limit-clause-over
returns-then-conflicts-limit-clause-over c =
    let (base, t) = subst (IsSomeRound c.args.proof.now c.vars-vars.result c.rounds.conflicts c.args.limit c.rounds.proof c.rounds.watch c.rounds.arena.clauses
    c.rounds.database) c.in-Conflict.is c.rounds.invariant.round in
    let h = c.in_ok-learn-in-Conflict.ensures.ok in
    let running = h.running base (conflict_in c.args.proof.now c.vars-vars.result base c.rounds.conflicts c.args.limit c.rounds.proof c.rounds.watch
    c.rounds.arena.clauses c.rounds.database c.in-Conflict.r t) in
    subst (λ n. IsOver c.args.proof.now c.learn.new.proof n c.args.limit c.cancel_to.new.self c.learn.new.arena.clauses
    c.learn.new.database Spent) c.vars-vars.ensures
    (over_spent c.args.proof.now c.vars-vars.result base c.rounds.conflicts c.args.limit c.in-Conflict.r c.rounds.proof c.learn.new.proof c.rounds.watch
    c.learn.new.watch c.cancel_to.new.self
    c.rounds.arena.clauses c.learn.new.arena.clauses c.rounds.database c.learn.new.database t h c.if-conflicts-limit.true
    c.cancel_to.ensures.levels c.cancel_to.ensures.lists c.cancel_to.ensures.back
    (c.cancel_to.ensures.serves.keeps c.learn.new.arena.clauses running.serves))

pub returns-then-conflicts-limit-clause-lemmas : goal.returns-then-conflicts-limit-clause-lemmas
returns-then-conflicts-limit-clause-lemmas c =
    let (base, t) = subst (IsSomeRound c.args.proof.now c.vars-vars.result c.rounds.conflicts c.args.limit c.rounds.proof c.rounds.watch c.rounds.arena.clauses
    c.rounds.database) c.in-Conflict.is c.rounds.invariant.round in
    logged_after c.args.proof.now c.vars-vars.result base c.rounds.conflicts c.args.limit c.in-Conflict.r c.rounds.proof c.learn.new.proof c.rounds.watch
    c.learn.new.watch c.rounds.arena.clauses
    c.learn.new.arena.clauses c.rounds.database c.learn.new.database t c.in_ok-learn-in-Conflict.ensures.ok

pub returns-in_err-outcome-in-Conflict-clause-lemmas : goal.returns-in_err-outcome-in-Conflict-clause-lemmas
returns-in_err-outcome-in-Conflict-clause-lemmas c =
    let (base, t) = subst (IsSomeRound c.args.proof.now c.vars-vars.result c.rounds.conflicts c.args.limit c.rounds.proof c.rounds.watch c.rounds.arena.clauses
    c.rounds.database) c.in-Conflict.is c.rounds.invariant.round in
    logged_after c.args.proof.now c.vars-vars.result base c.rounds.conflicts c.args.limit c.in-Conflict.r c.rounds.proof c.learn.new.proof c.rounds.watch
    c.learn.new.watch c.rounds.arena.clauses
    c.learn.new.arena.clauses c.rounds.database c.learn.new.database t c.in_ok-learn-in-Conflict.ensures.ok

pub rounds-preserved : goal.rounds-preserved
rounds-preserved c =
    let (base, t) = subst (IsSomeRound c.args.proof.now c.vars-vars.result c.rounds.conflicts c.args.limit c.rounds.proof c.rounds.watch c.rounds.arena.clauses
    c.rounds.database) c.in-Conflict.is c.rounds.invariant.round in
    let p = c.in_ok-outcome-in-Conflict.ensures in
    let round = round_learns c.args.proof.now c.vars-vars.result base c.rounds.conflicts c.args.limit
    (length c.learn.new.watch.levels) c.in-Conflict.r c.rounds.proof c.learn.new.proof c.rounds.watch c.learn.new.watch
    c.propagate-in-Conflict.new.watch c.rounds.arena.clauses c.learn.new.arena.clauses c.propagate-in-Conflict.new.arena.clauses c.rounds.database
    c.learn.new.database c.in_ok-outcome-in-Conflict.outcome t c.in_ok-learn-in-Conflict.ensures.ok c.if-conflicts-limit.false p.advances p.levels p.serves
    p.apart p.ends in
    record {
      round = (base, round);
      vars = round.vars_is;
      clear = subst (λ n. IsClear (n + 1) c.learn.new.marks) c.rounds.invariant.vars c.in_ok-learn-in-Conflict.ensures.clear;
      room = subst (λ n. length c.propagate-in-Conflict.new.watch.trail.places ≤ n) round.vars_is p.room;
    }

pub propagate-requires : goal.propagate-requires
propagate-requires c =
    let (base, t) = subst (IsSomeRound c.args.proof.now c.vars-vars.result c.rounds.conflicts c.args.limit c.rounds.proof c.rounds.watch c.rounds.arena.clauses
    c.rounds.database) c.in-Quiet.is c.rounds.invariant.round in
    let d = c.if-not-decide.ensures in
    d.serves.keeps c.rounds.arena.clauses t.running.serves

pub refute-requires-clause-phase : goal.refute-requires-clause-phase
refute-requires-clause-phase c =
    let (base, t) = subst (IsSomeRound c.args.proof.now c.vars-vars.result c.rounds.conflicts c.args.limit c.rounds.proof c.rounds.watch c.rounds.arena.clauses
    c.rounds.database) c.in-Conflict.is c.rounds.invariant.round in
    t.search.phase

pub learn-requires-clause-some : goal.learn-requires-clause-some
learn-requires-clause-some c =
    let (base, t) = subst (IsSomeRound c.args.proof.now c.vars-vars.result c.rounds.conflicts c.args.limit c.rounds.proof c.rounds.watch c.rounds.arena.clauses
    c.rounds.database) c.in-Conflict.is c.rounds.invariant.round in (
      base,
      conflict_in c.args.proof.now c.vars-vars.result base c.rounds.conflicts c.args.limit c.rounds.proof c.rounds.watch c.rounds.arena.clauses
          c.rounds.database c.in-Conflict.r t,
    )

pub learn-requires-clause-phase : goal.learn-requires-clause-phase
learn-requires-clause-phase c =
    let (base, t) = subst (IsSomeRound c.args.proof.now c.vars-vars.result c.rounds.conflicts c.args.limit c.rounds.proof c.rounds.watch c.rounds.arena.clauses
    c.rounds.database) c.in-Conflict.is c.rounds.invariant.round in
    t.search.phase

pub propagate-requires-in-Conflict : goal.propagate-requires-in-Conflict
propagate-requires-in-Conflict c =
    let (base, t) = subst (IsSomeRound c.args.proof.now c.vars-vars.result c.rounds.conflicts c.args.limit c.rounds.proof c.rounds.watch c.rounds.arena.clauses
    c.rounds.database) c.in-Conflict.is c.rounds.invariant.round in
    let h = c.in_ok-learn-in-Conflict.ensures.ok in
    let running = h.running base (conflict_in c.args.proof.now c.vars-vars.result base c.rounds.conflicts c.args.limit c.rounds.proof c.rounds.watch
    c.rounds.arena.clauses c.rounds.database c.in-Conflict.r t) in
    running.serves
