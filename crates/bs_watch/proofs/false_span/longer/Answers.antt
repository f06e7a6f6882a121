use Rattle.std.proofs.Common.{arith, sym, subst, ◌∙◌}
use Rattle.bs_watch.specs.Spans.{IsSpan}
use Rattle.bs_watch.proofs.Spans.{longer_span}
use Rattle.bs_watch.proofs.false_span.longer.Goals as goal

pub returns : goal.returns
returns c =
    longer_span c.args.trail.now c.args.span c.literal-last.result c.len-places.result c.len-places.ensures.length
    (let some = c.if-places-eq0.false in omega (arith, some)) c.literal-last.ensures.literal c.literal-last.ensures.range
    (sym c.positive.ensures ∙ c.if-positive.false) (sym c.var.ensures.variable ∙ c.if-var-span.false) c.requires.span
