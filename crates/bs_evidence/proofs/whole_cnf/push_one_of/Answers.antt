use Rattle.bs_evidence.specs.WholeWalk.{problem_in}
use Rattle.bs_evidence.proofs.WholeTexts.{one_joined}
use Rattle.bs_evidence.proofs.whole_cnf.push_one_of.Goals as goal

pub returns : goal.returns
returns c =
    one_joined (problem_in c.args.asked.now) c.args.asked.now.lines.now c.requires.accepted c.push_line.result c.args.text.now.items
    c.push_activations.new.text.items c.push_line.new.text.items _ c.in_ok-push_activations.ensures c.push_line.ensures.ok
