use Rattle.bs_net.specs.Netlist.{parts_of}
use Rattle.bs_inspect_why_words.proofs.ReasonLemmas.{reasons_more}
use Rattle.bs_inspect_why_words.proofs.reason.reasons_by.Goals as goal

pub stretches-preserved : goal.stretches-preserved
stretches-preserved c =
    reasons_more (parts_of c.args.raw.now) c.args.most c.args.facts.now c.args.begins.now c.stretches.j c.stretch_back.result.now
    c.in_ok-reason.reason c.stretches.reasons.items c.push.new.self.items c.stretch_back.ensures c.stretches.invariant c.in_ok-reason.ensures
    c.in_ok-push.ensures.items
