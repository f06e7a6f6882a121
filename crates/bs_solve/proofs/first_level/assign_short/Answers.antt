use Rattle.bs_solve.proofs.FirstLevels.{sole, satisfied_open, grown_refl, satisfied_value}
use Rattle.bs_arena.specs.Arena.{literals_at}
use Rattle.bs_solve.proofs.first_level.assign_short.Goals as goal

pub returns-in-None-clause-grown : goal.returns-in-None-clause-grown
returns-in-None-clause-grown c =
    (satisfied_open c.args.arena.now.clauses c.args.watch.now c.assign.new.self c.args.r c.literal_in-literal.result c.assign.ensures.new c.assign.ensures.serves
    c.requires.live (sole (literals_at c.args.arena.now.clauses c.args.r) c.literal_in-literal.result c.literal_in-literal.ensures c.requires.few)
    c.in-None.ensures).0

pub returns-in-None-clause-satisfied : goal.returns-in-None-clause-satisfied
returns-in-None-clause-satisfied c =
    (satisfied_open c.args.arena.now.clauses c.args.watch.now c.assign.new.self c.args.r c.literal_in-literal.result c.assign.ensures.new c.assign.ensures.serves
    c.requires.live (sole (literals_at c.args.arena.now.clauses c.args.r) c.literal_in-literal.result c.literal_in-literal.ensures c.requires.few)
    c.in-None.ensures).1

pub returns-in-Some-clause-grown : goal.returns-in-Some-clause-grown
returns-in-Some-clause-grown c = grown_refl c.args.arena.now.clauses c.args.watch.now

pub returns-in-Some-clause-satisfied : goal.returns-in-Some-clause-satisfied
returns-in-Some-clause-satisfied c =
    satisfied_value c.args.arena.now.clauses c.args.watch.now c.args.r c.literal_in-literal.result c.in-Some.is_true
    (sole (literals_at c.args.arena.now.clauses c.args.r) c.literal_in-literal.result c.literal_in-literal.ensures c.requires.few) c.in-Some.ensures
