use Rattle.bs_vcd.proofs.FoundLemmas.{code_is_somewhere}
use Rattle.bs_vcd.proofs.law.codes_are_somewhere.Goals as goal

pub returns : goal.returns
returns c = record { is = code_is_somewhere }
