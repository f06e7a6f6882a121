use Rattle.std.proofs.Common.{refl}
use Rattle.bs_wave.proofs.WritingLemmas.{one_more_change}
use Rattle.bs_wave.proofs.text.push_changes.Goals as goal

pub nets-preserved : goal.nets-preserved
nets-preserved c =
    one_more_change c.args.before.now c.args.values.now c.nets.net _ _ c.args.into.now.items c.nets.into.items c.push_change.new.into.items
    c.nets-test.true refl c.nets.invariant c.in_ok-push_change.ensures.ok
