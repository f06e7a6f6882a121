use Rattle.std.proofs.Common.{◌∙◌, ◌<◌, length, arith}
use Rattle.bs_wave.proofs.WritingLemmas.{one_more_net}
use Rattle.bs_wave.proofs.text.push_nets.Goals as goal

pub nets-preserved : goal.nets-preserved
nets-preserved c =
    let below : c.nets.net < length c.args.keys.now = omega (arith, c.nets-test.true, c.len-net-end.ensures) in
    one_more_net c.args.keys.now c.nets.net c.args.into.now.items c.nets.into.items c.push_net.new.into.items c.slice.result.now c.get.result.now
    below c.nets.invariant (c.slice.ensures ∙ c.get.ensures.value) c.in_ok-push_net.ensures.ok
