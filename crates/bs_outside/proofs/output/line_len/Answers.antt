use Rattle.std.proofs.Common.{arith}
use Rattle.bs_outside.proofs.LineLemmas.{line_at_feed, line_at_end}
use Rattle.bs_outside.proofs.output.line_len.Goals as goal

pub returns-then-at-text-clause-line : goal.returns-then-at-text-clause-line
returns-then-at-text-clause-line c = line_at_feed _ _ c.if-at-text.true c.feed_place-at.ensures.before (c.feed_place-at.ensures.ended c.if-at-text.true)

pub returns-else-at-text-clause-line : goal.returns-else-at-text-clause-line
returns-else-at-text-clause-line c = line_at_end _ c.requires (λ k lt. c.feed_place-at.ensures.before k (omega (arith, lt, c.if-at-text.false)))
