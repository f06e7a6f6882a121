use Rattle.std.proofs.Common.{◌+◌, ◌*◌, ◌∙◌, ap, List, length, [], ◌∷◌}
use Rattle.bs_clause.specs.Literal.{Literal, Clause}
use Rattle.bs_encode.specs.Tables.{lit}
use Rattle.bs_reach_unrolled.proofs.RowLemmas.{unit_listed}
use Rattle.bs_reach_unrolled.proofs.rows.reset_row.Goals as goal

pub returns : goal.returns
returns c =
    unit_listed c.args.encoding.now c.args.reset.now c.args.k c.requires.unrollable c.args.f (c.times-before.result + c.args.f + 1) c.state_lit.result
    c.get.result c.in_ok-clause.clause c.requires.some c.state_lit.ensures c.get.ensures.lookup
    (c.in_ok-clause.ensures ∙ ap (λ (l : Literal). l ∷ []) (c.new.ensures ∙ ap (λ v. lit v c.get.result) c.var-state.ensures.variable))
    (ap (λ n. n + c.args.f + 1) (c.times-before.ensures.product ∙
    ap (λ n. c.args.k * n) (c.len.ensures ∙ ap (λ (cs : List Clause). length cs) c.clauses.ensures)))
