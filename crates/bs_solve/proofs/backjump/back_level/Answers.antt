use Rattle.std.proofs.Common.{inr}
use Rattle.std.proofs.lemmas.List.Elements.{All-contains}
use Rattle.std.proofs.lemmas.List.Sorted.{All-permutation}
use Rattle.bs_arena.specs.Arena.{literals_at}
use Rattle.bs_watch.specs.Trail.{IsFalseOn}
use Rattle.bs_watch.specs.Places.{literals_of}
use Rattle.bs_watch.proofs.Gets.{Contains_from_get}
use Rattle.bs_solve.proofs.backjump.back_level.Goals as goal

pub level_of-requires : goal.level_of-requires
level_of-requires c =
    inr (All-contains (IsFalseOn (literals_of c.args.watch.now.trail.places))
    (literals_at c.choose_watches.new.arena.clauses c.args.r) c.literal_in-second.result
    (All-permutation (IsFalseOn (literals_of c.args.watch.now.trail.places)) (literals_at c.args.arena.now.clauses c.args.r)
    (literals_at c.choose_watches.new.arena.clauses c.args.r) c.choose_watches.ensures.same c.requires.lost)
    (Contains_from_get (literals_at c.choose_watches.new.arena.clauses c.args.r) 1 c.literal_in-second.result c.literal_in-second.ensures))
