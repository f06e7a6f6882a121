use Rattle.bs_inspect_causes.proofs.facts.real_facts.Goals as goal

pub facts-preserved : goal.facts-preserved
facts-preserved c = c.in_ok-push_real.ensures
