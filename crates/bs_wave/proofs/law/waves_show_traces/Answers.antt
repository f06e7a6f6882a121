use Rattle.bs_wave.proofs.TraceLemmas.{traces_have_one_wave, waves_show_traces}
use Rattle.bs_wave.proofs.law.waves_show_traces.Goals as goal

pub returns-clause-one : goal.returns-clause-one
returns-clause-one c = traces_have_one_wave

pub returns-clause-shown : goal.returns-clause-shown
returns-clause-shown c = waves_show_traces
