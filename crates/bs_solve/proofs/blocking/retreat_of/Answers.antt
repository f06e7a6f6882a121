use Rattle.std.proofs.Common.{inr, sym, subst}
use Rattle.std.specs.Prelude.{Contains}
use Rattle.bs_clause.proofs.Literals.{Contains-from_has}
use Rattle.bs_arena.specs.Arena.{literals_at}
use Rattle.bs_watch.specs.Places.{literals_of}
use Rattle.bs_solve.proofs.Blockings.{retreat_from, second_lost}
use Rattle.bs_solve.proofs.blocking.retreat_of.Goals as goal

pub level_of-requires : goal.level_of-requires
level_of-requires c =
    inr (subst (Contains (literals_of c.args.watch.now.trail.places)) c.negate.ensures
    (Contains-from_has (literals_of c.args.watch.now.trail.places) c.negate.result (sym c.if-not-is_true.ensures)))

pub level_of-requires-2 : goal.level_of-requires-2
level_of-requires-2 c =
    inr (second_lost c.args.watch.now.trail.places (literals_at c.choose_watches.new.arena.clauses c.args.r) c.literal_in-first.result
    c.literal_in-second.result c.choose_watches.ensures.highest c.literal_in-first.ensures c.literal_in-second.ensures
    (subst (Contains (literals_of c.args.watch.now.trail.places)) c.negate.ensures
    (Contains-from_has (literals_of c.args.watch.now.trail.places) c.negate.result (sym c.if-not-is_true.ensures))))

pub returns-clause-retreat : goal.returns-clause-retreat
returns-clause-retreat c =
    retreat_from c.args.watch.now.trail.places (literals_at c.choose_watches.new.arena.clauses c.args.r) c.literal_in-first.result
    c.literal_in-second.result c.level_of.result c.level_of-2.result c.retreat_between.result c.choose_watches.ensures.watchable.long
    c.literal_in-first.ensures c.literal_in-second.ensures c.choose_watches.ensures.highest
    (subst (Contains (literals_of c.args.watch.now.trail.places)) c.negate.ensures
    (Contains-from_has (literals_of c.args.watch.now.trail.places) c.negate.result (sym c.if-not-is_true.ensures))) c.level_of.ensures
    c.level_of-2.ensures c.retreat_between.ensures
