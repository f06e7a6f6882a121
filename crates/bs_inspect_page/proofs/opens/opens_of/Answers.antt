use Rattle.bs_inspect_page.proofs.OpenLemmas.{opens_more}
use Rattle.bs_inspect_page.proofs.opens.opens_of.Goals as goal

pub states-preserved : goal.states-preserved
states-preserved c = opens_more c.args.report.now c.states.i c.states.opens c.push_open.new.opens c.states.invariant c.in_ok-push_open.ensures
