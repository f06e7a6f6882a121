use Rattle.bs_stim.proofs.ExactLemmas.{stimulus_texts_are_exact}
use Rattle.bs_stim.proofs.law.stimulus_texts_are_exact.Goals as goal

pub returns : goal.returns
returns c = stimulus_texts_are_exact
