use Rattle.std.proofs.Common.{◌≡◌, ◌+◌, ◌*◌, ◌∙◌, sym, ap, Some}
use Rattle.bs_clause.specs.Literal.{Literal}
use Rattle.bs_encode.specs.Frame.{raised}
use Rattle.bs_encode.specs.Tables.{lit}
use Rattle.bs_reach_unrolled.specs.Unrolled.{base_of, next_at}
use Rattle.bs_watch.proofs.Gets.{get_map}
use Rattle.bs_reach_unrolled.proofs.RowLemmas.{signed_get}
use Rattle.bs_reach_unrolled.proofs.failure.wanted_of.Goals as goal

pub returns : goal.returns
returns c =
    let base = base_of c.args.encoding.now c.args.c in
    let variable : c.args.c * c.vars.result + c.var.result.0 ≡ base + c.next_lit.result.variable =
    ap (λ n. c.args.c * n + c.var.result.0) c.vars.ensures ∙ ap (λ n. base + n) c.var.ensures.variable in
    signed_get (next_at c.args.encoding.now c.args.c) c.args.state.now c.args.f (raised base c.next_lit.result) c.get.result
    (get_map (raised base) c.args.encoding.now.next c.args.f c.next_lit.result c.next_lit.ensures) c.get.ensures.lookup
    ∙ ap (λ (l : Literal). Some l) (sym (c.new.ensures ∙ ap (λ v. lit v c.get.result) variable))
