use Rattle.bs_wave.proofs.ReadBackLemmas.{waves_read_back}
use Rattle.bs_wave.proofs.SpelledLemmas.{wave_texts_are_exact}
use Rattle.bs_wave.proofs.law.waves_read_back.Goals as goal

pub returns-clause-back : goal.returns-clause-back
returns-clause-back c = waves_read_back

pub returns-clause-exact : goal.returns-clause-exact
returns-clause-exact c = wave_texts_are_exact
