use Rattle.bs_stim.proofs.ReadBackLemmas.{stimuli_read_back, unended_stimuli_read_back}
use Rattle.bs_stim.proofs.law.stimuli_read_back.Goals as goal

pub returns-clause-whole : goal.returns-clause-whole
returns-clause-whole c = stimuli_read_back

pub returns-clause-unended : goal.returns-clause-unended
returns-clause-unended c = unended_stimuli_read_back
