use Rattle.bs_inspect_causes.proofs.further.further_facts.Goals as goal

pub accounts-preserved : goal.accounts-preserved
accounts-preserved c = c.in_ok-push_layer.ensures
