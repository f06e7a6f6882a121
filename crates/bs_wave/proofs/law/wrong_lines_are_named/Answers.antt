use Rattle.bs_wave.proofs.FaultLemmas.{wrong_lines_are_named}
use Rattle.bs_wave.proofs.law.wrong_lines_are_named.Goals as goal

pub returns : goal.returns
returns c = wrong_lines_are_named
