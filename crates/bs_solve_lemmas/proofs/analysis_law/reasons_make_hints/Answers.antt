use Rattle.bs_solve_lemmas.proofs.Chains.{chains_are_right}
use Rattle.bs_solve_lemmas.proofs.analysis_law.reasons_make_hints.Goals as goal

pub returns : goal.returns
returns c = chains_are_right
