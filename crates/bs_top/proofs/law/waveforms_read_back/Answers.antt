use Rattle.bs_top.proofs.WaveLemmas.{waveforms_read_back}
use Rattle.bs_top.proofs.law.waveforms_read_back.Goals as goal

pub returns : goal.returns
returns c = waveforms_read_back
