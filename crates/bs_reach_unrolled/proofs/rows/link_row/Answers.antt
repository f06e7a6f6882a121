use Rattle.std.proofs.Common.{◌≡◌, ◌+◌, ◌*◌, ◌∙◌, sym, ap, arith, not, List, length, [], ◌∷◌}
use Rattle.bs_clause.specs.Literal.{Literal, Clause}
use Rattle.bs_encode.specs.Tables.{lit}
use Rattle.bs_reach_unrolled.specs.Unrolled.{base_of}
use Rattle.bs_reach_unrolled.proofs.RowLemmas.{link_listed, second}
use Rattle.bs_reach_unrolled.proofs.rows.link_row.Goals.{then-positive, else-positive}
use Rattle.bs_reach_unrolled.proofs.rows.link_row.Goals as goal

pub returns : goal.returns
returns c =
    let two : c.if-positive.second ≡ second c.args.positive = elim c.if-positive.branch [
      | then-positive w ↦ w.second-is ∙ sym (ap second w.if-positive.true)
      | else-positive w ↦ w.second-is ∙ sym (ap second w.if-positive.false)
    ] in
    let flops : length c.states.result.now ≡ length c.args.encoding.now.states = ap (λ (ls : List Literal). length ls) c.states.ensures in
    let rows : c.times.result ≡ c.args.k * length c.args.encoding.now.clauses =
    c.times.ensures.product ∙ ap (λ n. c.args.k * n) (c.len.ensures ∙ ap (λ (cs : List Clause). length cs) c.clauses.ensures) in
    let links : c.times-2.result ≡ c.args.c * (2 * length c.args.encoding.now.states) =
    c.times-2.ensures.product ∙ ap (λ n. c.args.c * (2 * n)) flops in
    let next : c.above-next.result.0 ≡ base_of c.args.encoding.now c.args.c + c.next_lit.result.variable =
    c.above-next.ensures ∙ (ap (λ n. c.args.c * n + c.var.result.0) c.vars.ensures ∙
    ap (λ n. c.args.c * c.args.encoding.now.variables + n) c.var.ensures.variable) in
    let state : c.above-state.result.0 ≡ base_of c.args.encoding.now (c.args.c + 1) + c.state_lit.result.variable =
    c.above-state.ensures ∙ (ap (λ n. (c.args.c + 1) * n + c.var-2.result.0) c.vars-2.ensures ∙
    ap (λ n. (c.args.c + 1) * c.args.encoding.now.variables + n) c.var-2.ensures.variable) in
    link_listed c.args.encoding.now c.args._reset.now c.args.k c.requires.unrollable c.args.c c.args.f
    (c.times.result + length c.states.result.now + c.times-2.result + 2 * c.args.f + c.if-positive.second + 1) c.next_lit.result c.state_lit.result
    c.args.positive c.in_ok-clause.clause c.requires.within c.requires.width c.next_lit.ensures c.state_lit.ensures
    (c.in_ok-clause.ensures ∙ (ap (λ (l : Literal). l ∷ c.new-2.result ∷ []) (c.new.ensures ∙ ap (λ v. lit v (not c.args.positive)) next) ∙
    ap (λ (l : Literal). lit (base_of c.args.encoding.now c.args.c + c.next_lit.result.variable) (not c.args.positive) ∷ l ∷ [])
    (c.new-2.ensures ∙ ap (λ v. lit v c.args.positive) state)))
    (omega (arith, two, flops, rows, links))
