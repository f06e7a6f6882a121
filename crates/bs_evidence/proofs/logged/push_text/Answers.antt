use Rattle.bs_evidence.proofs.logged.push_text.Goals as goal

pub push_cnf-requires : goal.push_cnf-requires
push_cnf-requires c = c.requires.asked
