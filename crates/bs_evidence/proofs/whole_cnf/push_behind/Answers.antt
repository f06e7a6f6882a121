use Rattle.bs_evidence.specs.WholeWalk.{problem_in}
use Rattle.bs_evidence.proofs.WholeTexts.{behind_joined}
use Rattle.bs_evidence.proofs.whole_cnf.push_behind.Goals as goal

pub returns : goal.returns
returns c =
    behind_joined (problem_in c.args.asked.now) c.args.asked.now.lines.now c.requires.accepted c.push_one_of.result c.args.text.now.items
    c.push_so_far.new.text.items c.push_one_of.new.text.items c.in_ok-push_so_far.ensures c.push_one_of.ensures
