use Rattle.std.proofs.Common.{◌+◌}
use Rattle.bs_inspect_causes.proofs.ExplainLemmas.{each_in, explain_more, next_due}
use Rattle.bs_inspect_causes.proofs.accounts.tell_layer.Goals as goal

pub further_facts-requires : goal.further_facts-requires
further_facts-requires c =
    each_in c.args.basis.now.scene.now.moments.now c.args.asked.now (c.args.layer + 1) c.tell_facts.new.accounts c.slice.result.now
    (explain_more c.args.basis.now.scene.now.moments.now c.args.basis.now.drivers.now c.args.asked.now c.args.layer c.args.facts.items c.args.accounts.now
    c.tell_facts.new.accounts c.requires.so_far c.requires.due c.in_ok-tell_facts.ensures)
    c.slice.ensures

pub returns-clause-so_far : goal.returns-clause-so_far
returns-clause-so_far c =
    explain_more c.args.basis.now.scene.now.moments.now c.args.basis.now.drivers.now c.args.asked.now c.args.layer c.args.facts.items c.args.accounts.now
    c.tell_facts.new.accounts c.requires.so_far c.requires.due c.in_ok-tell_facts.ensures

pub returns-clause-due : goal.returns-clause-due
returns-clause-due c =
    next_due c.args.basis.now.scene.now.moments.now c.args.basis.now.drivers.now c.args.asked.now c.args.layer c.tell_facts.new.accounts c.slice.result.now
    c.in_ok-next.next.items c.slice.ensures c.in_ok-next.ensures
