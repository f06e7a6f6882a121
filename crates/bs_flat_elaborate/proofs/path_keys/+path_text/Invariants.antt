use Rattle.bs_flat_elaborate.proofs.path_keys.+path_text.Given as goal

abbrev pub decreases-path_text : goal.decreases-path_text
decreases-path_text l = l.at
