use Rattle.std.proofs.Common.{◌≡◌, ◌-◌, [], take, sym, subst, arith}
use Rattle.std.specs.Prelude.{count_by, filter}
use Rattle.bs_solve_lemmas.specs.Keeping.{is_long_row, goes}
use Rattle.bs_solve_lemmas.proofs.Rules.{known_stay}
use Rattle.bs_solve_lemmas.proofs.selection.find_leaving.Goals as goal

pub collect-requires-clause-none : goal.collect-requires-clause-none
collect-requires-clause-none c =
    known_stay c.args.activations.own c.args.activations.steps c.args.arena.now.clauses c.args.rows.now c.args.known c.args.long c.requires.ascends c.requires.known
    (let e : count_by (is_long_row c.args.activations.own c.args.activations.steps c.args.arena.now.clauses) c.args.rows.now - 20000 ≡ 0 =
    omega (arith, c.count_long.ensures, c.requires.known.counted, c.saturating_sub-many.ensures, c.if-many-eq0.true) in e)

pub returns-then-many-eq0-clause-none : goal.returns-then-many-eq0-clause-none
returns-then-many-eq0-clause-none c =
    let own = c.args.activations.own in
    let steps = c.args.activations.steps in
    let clauses = c.args.arena.now.clauses in
    let rows = c.args.rows.now in
    let none : count_by (is_long_row own steps clauses) rows - 20000 ≡ 0 =
    omega (arith, c.count_long.ensures, c.requires.known.counted, c.saturating_sub-many.ensures, c.if-many-eq0.true) in
    subst (λ n. filter (goes own steps clauses rows) (take n rows) ≡ []) (sym c.in_ok-found.ensures.start)
    (known_stay own steps clauses rows c.args.known c.args.long c.requires.ascends c.requires.known none)
