use Rattle.bs_wave.proofs.WritingLemmas.{on_ok, whole_head}
use Rattle.bs_wave.proofs.text.push_head.Goals as goal

pub returns-clause-ok : goal.returns-clause-ok
returns-clause-ok c =
    on_ok c.push_line-4.result
    (λ last.
    whole_head c.args.keys.now c.args.into.now.items c.push_line.new.text.items c.push_line-2.new.text.items c.push_nets.new.into.items
    c.push_line-3.new.text.items c.push_line-4.new.text.items c.in_ok-push_line.ensures.ok c.in_ok-push_line-2.ensures.ok
    c.in_ok-push_nets.ensures.ok c.in_ok-push_line-3.ensures.ok last)
    c.push_line-4.ensures.ok
