use Rattle.std.proofs.Common.{sym, ap, subst, length, reverse}
use Rattle.bs_log.specs.History.{History}
use Rattle.bs_reach_unrolled.specs.Unrolled.{unrolled}
use Rattle.bs_reach.specs.Refuted.{AreRefuted}
use Rattle.bs_reach.proofs.RefutedLemmas.{refuted_none}
use Rattle.bs_reach.proofs.refuted.fill.Goals as goal

pub add_lengths-requires-clause-start : goal.add_lengths-requires-clause-start
add_lengths-requires-clause-start c =
    subst (λ n. AreRefuted c.args.encoding.now c.args.reset.now c.args.state.now c.args.k c.args.b 0 n (reverse c.args.log.now)) (sym c.count-first.ensures)
    (subst (λ (h : History). AreRefuted c.args.encoding.now c.args.reset.now c.args.state.now c.args.k c.args.b 0 (length (unrolled c.args.encoding.now c.args.reset.now c.args.k)) h) (sym (ap reverse c.requires.empty))
    (refuted_none c.args.encoding.now c.args.reset.now c.args.state.now c.args.k c.args.b c.requires.unrollable c.requires.limit))
