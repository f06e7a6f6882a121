use Rattle.std.proofs.Common.{◌∙◌, ◌<◌, length, arith}
use Rattle.bs_wave.proofs.WritingLemmas.{one_more_moment}
use Rattle.bs_wave.proofs.text.push_moments.Goals as goal

pub moments-preserved : goal.moments-preserved
moments-preserved c =
    let below : c.moments.moment < length c.args.moments.now = omega (arith, c.moments-test.true, c.len-moment-end.ensures) in
    one_more_moment c.args.moments.now c.moments.moment c.values_before.result.now c.slice.result.now c.get.result.now c.args.into.now.items
    c.moments.into.items c.push_moment.new.into.items below c.moments.invariant c.values_before.ensures
    (c.slice.ensures ∙ c.get.ensures.value) c.in_ok-push_moment.ensures.ok
