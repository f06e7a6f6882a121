use Rattle.bs_inspect_view.proofs.SignalLemmas.{whole_put}
use Rattle.bs_inspect_view.proofs.signal.put.Goals as goal

pub returns-clause-whole : goal.returns-clause-whole
returns-clause-whole c =
    whole_put c.args.signals.now.items c.push.new.self.items c.args.signal c.requires.whole c.requires.follows c.in_ok-push.ensures.items
