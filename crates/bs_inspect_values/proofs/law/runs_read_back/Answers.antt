use Rattle.bs_inspect_values.proofs.RunLemmas.{runs_read_back}
use Rattle.bs_inspect_values.proofs.law.runs_read_back.Goals as goal

pub returns : goal.returns
returns c = runs_read_back
