use Rattle.bs_gen.specs.Gates.{feed_line}
use Rattle.bs_gen.proofs.EachLemmas.{each_none, each_step0}
use Rattle.bs_gen.proofs.gates.push_feeds.Goals as goal

pub loop-register-init : goal.loop-register-init
loop-register-init c = each_none feed_line 0 c.args.text.now.items

pub loop-register-preserved : goal.loop-register-preserved
loop-register-preserved c =
    each_step0 feed_line c.loop-register.register c.args.text.now.items c.loop-register.text.items c.push_feed.new.text.items
    c.loop-register.invariant c.in_ok-push_feed.ensures
