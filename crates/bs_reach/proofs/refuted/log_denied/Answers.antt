use Rattle.std.proofs.Common.{◌≡◌, ◌+◌, ◌^◌, ◌<◌, ◌∙◌, sym, ap, subst, arith, reverse}
use Rattle.bs_log.specs.History.{History}
use Rattle.bs_reach.specs.Refuted.{AreRefuted}
use Rattle.bs_reach.proofs.RefutedLemmas.{refuted_more, more_lines}
use Rattle.bs_reach.proofs.refuted.log_denied.Goals as goal

pub returns : goal.returns
returns c =
    let is : c.in_ok-end.end ≡ c.args.last + 2 = c.in_ok-end.ensures.id in
    let high : c.in_ok-end.end < 2 ^ 64 = omega arith in
    subst (λ n. AreRefuted c.args._encoding.now c.args._reset.now c.args._state.now c.args._k c.args._b (c.args._c + 1) n (reverse c.log_length.new.log)) (sym is)
    (subst (λ (h : History). AreRefuted c.args._encoding.now c.args._reset.now c.args._state.now c.args._k c.args._b (c.args._c + 1) (c.args.last + 2) h)
    (sym (ap reverse c.in_ok-end.ensures.lines ∙ more_lines c.args.log.now (c.args.last + 1) c.args.failed_assumption))
    (refuted_more c.args._encoding.now c.args._reset.now c.args._state.now c.args._k c.args._b c.requires.unrollable c.requires.limit c.args._c c.args.last
    (reverse c.args.log.now) c.args.failed_assumption c.requires.so_far (omega (arith, is, high)) c.requires.failed_assumption))
