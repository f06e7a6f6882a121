use Rattle.std.proofs.Common.{◌-◌, ◌*◌, ◌∙◌, ap, arith, List, length}
use Rattle.bs_clause.specs.Literal.{Literal, Clause}
use Rattle.bs_reach_unrolled.proofs.RowLemmas.{unrolled_length}
use Rattle.bs_reach.proofs.refuted.count.Goals as goal

pub returns : goal.returns
returns c =
    let states = ap (λ (ls : List Literal). length ls) c.states.ensures in
    let frames = c.times-frames.ensures.product ∙ ap (λ n. c.args.k * n) (c.len.ensures ∙ ap (λ (cs : List Clause). length cs) c.clauses.ensures) in
    let links = c.times-links.ensures.product ∙ ap (λ n. (c.args.k - 1) * (2 * n)) states in
    let all = unrolled_length c.args.encoding.now c.args._reset.now c.args.k c.requires.unrollable c.requires.some c.requires.starts in
    omega (arith, states, frames, links, all)
