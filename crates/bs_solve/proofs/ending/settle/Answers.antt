use Rattle.std.proofs.Common.{◌≡◌, ◌≤◌, length, take, arith, ap, ◌∙◌, sym, subst}
use Rattle.bs_arena.specs.Arena.{Content}
use Rattle.std.specs.Prelude.{count_by}
use Rattle.bs_solve_lemmas.specs.Keeping.{is_long_row}
use Rattle.bs_solve.proofs.Droppings.{fewer}
use Rattle.bs_solve.proofs.Endings.{settling_range, settled_low, settled_long, settled}
use Rattle.bs_solve.proofs.ending.settle.Goals as goal

pub drop_leaving-requires-clause-range : goal.drop_leaving-requires-clause-range
drop_leaving-requires-clause-range c =
    let (es, s, known, range) = c.requires.some in
    settling_range c.args.watch.now c.args.arena.now.clauses c.args.database.now es s range

pub compact_where_due-requires-clause-room : goal.compact_where_due-requires-clause-room
compact_where_due-requires-clause-room c =
    let few = fewer c.drop_leaving.new.arena.clauses c.args.arena.now.clauses c.holds_clauses-2.ensures.ascends c.holds_clauses.ensures.ascends
    c.drop_leaving.ensures.dropped.live in
    let room = c.requires.room in
    omega (arith, few, room)

pub known_after-requires-clause-low : goal.known_after-requires-clause-low
known_after-requires-clause-low c =
    let (es, s, known, range) = c.requires.some in
    subst (λ rows. c.args.leaving.now.start ≤ length rows) (sym c.as_slice.ensures.value)
    (settled_low c.args.watch.now c.drop_leaving.new.watch c.compact_where_due.new.watch c.args.arena.now.clauses c.drop_leaving.new.arena.clauses
    c.compact_where_due.new.arena.clauses c.args.database.now c.drop_leaving.new.database c.compact_where_due.new.database c.args.leaving.now.start
    c.args.leaving.now.ids es c.drop_leaving.ensures.dropped c.compact_where_due.ensures.moved s)

pub known_after-requires-clause-long : goal.known_after-requires-clause-long
known_after-requires-clause-long c = λ same.
    let (es, s, known, range) = c.requires.some in
    subst (λ rows. c.args.known.long ≡
    count_by (is_long_row c.args.activations.own c.args.activations.steps c.compact_where_due.new.arena.clauses) (take c.args.leaving.now.start rows))
    (sym c.as_slice.ensures.value)
    (settled_long c.args.activations.own c.args.activations.steps c.args.known c.args.watch.now c.drop_leaving.new.watch c.compact_where_due.new.watch
    c.args.arena.now.clauses c.drop_leaving.new.arena.clauses c.compact_where_due.new.arena.clauses c.args.database.now c.drop_leaving.new.database
    c.compact_where_due.new.database c.args.leaving.now.start c.args.leaving.now.ids es c.drop_leaving.ensures.dropped c.compact_where_due.ensures.moved s known same)

pub returns-clause-settled : goal.returns-clause-settled
returns-clause-settled c =
    settled c.args.activations.own c.args.activations.steps c.known_after.result c.args.watch.now c.drop_leaving.new.watch c.compact_where_due.new.watch
    c.args.arena.now.clauses c.drop_leaving.new.arena.clauses c.compact_where_due.new.arena.clauses c.args.database.now c.drop_leaving.new.database
    c.compact_where_due.new.database c.args.leaving.now.start c.args.leaving.now.ids c.drop_leaving.ensures.dropped c.compact_where_due.ensures.moved
    (subst (λ rows. c.known_after.result.rows ≡ length rows) c.as_slice.ensures.value c.known_after.ensures.rows)
    (subst (λ rows. c.known_after.result.long ≡
    count_by (is_long_row c.args.activations.own c.args.activations.steps c.compact_where_due.new.arena.clauses) rows) c.as_slice.ensures.value
    c.known_after.ensures.long)

pub returns-clause-spared : goal.returns-clause-spared
returns-clause-spared c = λ few.
    let same = c.drop_leaving.ensures.words in
    let live = c.compact_where_due.ensures.live in
    ap (λ (a : Content). a.words) (c.compact_where_due.ensures.spared (omega (arith, few, same, live))) ∙ same
