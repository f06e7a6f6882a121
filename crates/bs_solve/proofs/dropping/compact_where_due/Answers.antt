use Rattle.std.proofs.Common.{arith}
use Rattle.bs_solve.proofs.Droppings.{has_compacted, same_words}
use Rattle.bs_solve.proofs.dropping.compact_where_due.Goals as goal

pub returns-then-dead-live-clause-moved : goal.returns-then-dead-live-clause-moved
returns-then-dead-live-clause-moved c =
    has_compacted c.args.watch.now c.compact_all.new.watch c.args.arena.now.clauses c.compact_all.new.arena.clauses c.compact_all.new.renaming.names
    c.args.database.now _ c.holds_clauses.ensures.ascends c.holds_clauses-then-dead-live.ensures.ascends c.compact_all.ensures.serves c.compact_all.ensures.meaning
    c.compact_all.ensures.renames c.compact_all.ensures.watch c.compact_all.ensures.rows c.compact_all.ensures.shorts

pub returns-then-dead-live-clause-live : goal.returns-then-dead-live-clause-live
returns-then-dead-live-clause-live c = same_words c.compact_all.new.arena.clauses c.args.arena.now.clauses c.compact_all.ensures.meaning

-- more words are dead than live
pub returns-then-dead-live-clause-spared : goal.returns-then-dead-live-clause-spared
returns-then-dead-live-clause-spared c = λ few.
    absurd (omega (arith, few, c.if-dead-live.true, c.words.ensures, c.live.ensures, c.live-2.ensures))
