use Rattle.std.proofs.Common.{◌+◌, ◌*◌, ◌∙◌, sym, ap, subst, List, length}
use Rattle.std.specs.Prelude.{slice_get}
use Rattle.bs_encode.specs.Frame.{raised_all, HasRoom}
use Rattle.bs_clause.specs.Literal.{Clause}
use Rattle.bs_reach_unrolled.proofs.RowLemmas.{frame_listed, row_room}
use Rattle.bs_reach_unrolled.proofs.rows.frame_row.Goals as goal

pub raise_all-requires : goal.raise_all-requires
raise_all-requires c =
    subst (HasRoom (c.args.c * c.vars.result)) (sym c.slice.ensures)
    (row_room c.args.encoding.now c.args._reset.now c.args.k c.requires.unrollable c.args.c (c.args.c * c.vars.result) c.args.i c.get.result.now
    c.requires.within (ap (λ n. c.args.c * n) c.vars.ensures) (ap (λ (cs : List Clause). slice_get cs c.args.i) (sym c.clauses-2.ensures) ∙ c.get.ensures))

pub returns : goal.returns
returns c =
    let times = c.times-before.ensures.product in
    frame_listed c.args.encoding.now c.args._reset.now c.args.k c.requires.unrollable c.args.c c.args.i (c.times-before.result + c.args.i + 1) c.get.result.now
    c.in_ok-clause.clause c.requires.within (ap (λ (cs : List Clause). slice_get cs c.args.i) (sym c.clauses-2.ensures) ∙ c.get.ensures)
    (c.in_ok-clause.ensures ∙ (ap (raised_all (c.args.c * c.vars.result)) c.slice.ensures ∙
    ap (λ n. raised_all (c.args.c * n) c.get.result.now) c.vars.ensures))
    (ap (λ n. n + c.args.i + 1) (times ∙ ap (λ n. c.args.c * n) (c.len.ensures ∙ ap (λ (cs : List Clause). length cs) c.clauses.ensures)))
