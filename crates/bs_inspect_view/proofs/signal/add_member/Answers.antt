use Rattle.bs_inspect_view.proofs.SignalLemmas.{last_follows, whole_rest}
use Rattle.bs_inspect_view.proofs.signal.add_member.Goals as goal

pub put_both-requires-clause-whole : goal.put_both-requires-clause-whole
put_both-requires-clause-whole c =
    whole_rest c.args.signals.now.items c.pop.new.self.items c.in-Some.last c.in-Some.ensures.items c.requires

pub put_both-requires-clause-follows : goal.put_both-requires-clause-follows
put_both-requires-clause-follows c =
    last_follows c.args.signals.now.items c.pop.new.self.items c.in-Some.last c.in-Some.ensures.items c.requires
