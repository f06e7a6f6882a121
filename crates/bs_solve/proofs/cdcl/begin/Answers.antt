use Rattle.std.proofs.Common.{◌≤◌, length, sym, subst, drop}
use Rattle.bs_solve.specs.declared.first_level.LevelStart.TheVariants.{Failed, Clash, Assigned}
use Rattle.bs_solve.specs.Database.{entries}
use Rattle.bs_solve.specs.FirstLevel.{AreShort, HasBegunLevel}
use Rattle.bs_watch.specs.Watch.{decided}
use Rattle.bs_solve_lemmas.proofs.Endings.{no_lemmas, some_and_last}
use Rattle.bs_solve.proofs.Grounds.{ground_low}
use Rattle.bs_solve.proofs.Beginnings.{begun_denies, begun_clashes, begun_pauses, begun_vars}
use Rattle.bs_solve.proofs.Refutings.{are_short, over_at_once}
use Rattle.bs_solve.proofs.cdcl.begin.Goals as goal

pub begin_level-requires-clause-levels : goal.begin_level-requires-clause-levels
begin_level-requires-clause-levels c = c.requires.rest.levels

pub begin_level-requires-clause-low : goal.begin_level-requires-clause-low
begin_level-requires-clause-low c =
    subst (λ ss. length c.args.watch.now.trail.places ≤ length ss) (sym c.as_slice.ensures.value)
    (ground_low (entries c.args.proof.now) c.args.database.now.shorts.items c.args.arena.now.clauses c.args.watch.now.trail.places c.requires.rest.ground)

pub begin_level-requires-clause-short : goal.begin_level-requires-clause-short
begin_level-requires-clause-short c =
    subst (AreShort c.args.watch.now.trail.vars c.args.arena.now.clauses) (sym c.as_slice.ensures.value)
    (are_short c.args.proof.now c.args.watch.now c.args.arena.now.clauses c.args.database.now c.requires.rest c.requires.range)

pub deny-requires-clause-failed_assumption : goal.deny-requires-clause-failed_assumption
deny-requires-clause-failed_assumption c =
    begun_denies c.args.proof.now c.args.watch.now c.begin_level.new.watch c.args.arena.now.clauses c.args.database.now c.args.assumptions.now c.in-Failed.l
    c.requires.rest c.requires.assumed c.requires.assumed_distinct c.requires.range c.begin_level.ensures.serves
    (subst (λ ss. HasBegunLevel (decided c.args.watch.now) c.begin_level.new.watch c.args.arena.now.clauses
    (drop (length c.args.watch.now.trail.places) ss) c.args.assumptions.now (Failed c.in-Failed.l)) c.as_slice.ensures.value
    (subst (HasBegunLevel (decided c.args.watch.now) c.begin_level.new.watch c.args.arena.now.clauses
    (drop (length c.args.watch.now.trail.places) c.as_slice.result.now) c.args.assumptions.now) c.in-Failed.is c.begin_level.ensures.begun))

pub refute-requires-clause-some : goal.refute-requires-clause-some
refute-requires-clause-some c =
    begun_clashes c.args.proof.now c.args.watch.now c.begin_level.new.watch c.args.arena.now.clauses c.args.database.now c.args.assumptions.now c.in-Clash.r
    c.requires.rest c.requires.assumed c.requires.range c.requires.distinct c.begin_level.ensures.serves
    (subst (λ ss. HasBegunLevel (decided c.args.watch.now) c.begin_level.new.watch c.args.arena.now.clauses
    (drop (length c.args.watch.now.trail.places) ss) c.args.assumptions.now (Clash c.in-Clash.r)) c.as_slice.ensures.value
    (subst (HasBegunLevel (decided c.args.watch.now) c.begin_level.new.watch c.args.arena.now.clauses
    (drop (length c.args.watch.now.trail.places) c.as_slice.result.now) c.args.assumptions.now) c.in-Clash.is c.begin_level.ensures.begun))

pub resume-requires-clause-pause : goal.resume-requires-clause-pause
resume-requires-clause-pause c =
    begun_pauses c.args.proof.now c.args.watch.now c.begin_level.new.watch c.args.arena.now.clauses c.args.database.now c.args.assumptions.now
    c.requires.rest c.requires.assumed c.begin_level.ensures.serves
    (subst (λ ss. HasBegunLevel (decided c.args.watch.now) c.begin_level.new.watch c.args.arena.now.clauses
    (drop (length c.args.watch.now.trail.places) ss) c.args.assumptions.now Assigned) c.as_slice.ensures.value
    (subst (HasBegunLevel (decided c.args.watch.now) c.begin_level.new.watch c.args.arena.now.clauses
    (drop (length c.args.watch.now.trail.places) c.as_slice.result.now) c.args.assumptions.now) c.in-Assigned.is c.begin_level.ensures.begun))

pub returns-in_ok-id-in-Failed-clause-over : goal.returns-in_ok-id-in-Failed-clause-over
returns-in_ok-id-in-Failed-clause-over c =
    over_at_once c.args.proof.now c.deny.new.proof c.args.watch.now.trail.vars c.args.limit c.in_ok-id-in-Failed.id c.begin_level.new.watch c.deny.new.watch
    c.deny.new.arena.clauses c.deny.new.database c.requires.limit c.requires.range c.requires.distinct c.in_ok-id-in-Failed.ensures.ok
    (begun_vars c.args.watch.now c.begin_level.new.watch c.args.arena.now.clauses _ _ _ c.begin_level.ensures.begun)

pub returns-in_ok-id-in-Failed-clause-lemmas : goal.returns-in_ok-id-in-Failed-clause-lemmas
returns-in_ok-id-in-Failed-clause-lemmas c =
    some_and_last c.args.proof.now c.args.proof.now c.deny.new.proof 0 c.in_ok-id-in-Failed.id (no_lemmas c.args.proof.now)
    c.in_ok-id-in-Failed.ensures.ok.refuted

pub returns-in_ok-id-in-Clash-clause-over : goal.returns-in_ok-id-in-Clash-clause-over
returns-in_ok-id-in-Clash-clause-over c =
    over_at_once c.args.proof.now c.refute.new.proof c.args.watch.now.trail.vars c.args.limit c.in_ok-id-in-Clash.id c.begin_level.new.watch
    c.refute.new.watch c.refute.new.arena.clauses c.refute.new.database c.requires.limit c.requires.range c.requires.distinct c.in_ok-id-in-Clash.ensures.ok
    (begun_vars c.args.watch.now c.begin_level.new.watch c.args.arena.now.clauses _ _ _ c.begin_level.ensures.begun)

pub returns-in_ok-id-in-Clash-clause-lemmas : goal.returns-in_ok-id-in-Clash-clause-lemmas
returns-in_ok-id-in-Clash-clause-lemmas c =
    some_and_last c.args.proof.now c.args.proof.now c.refute.new.proof 0 c.in_ok-id-in-Clash.id (no_lemmas c.args.proof.now)
    c.in_ok-id-in-Clash.ensures.ok.refuted
