use Rattle.bs_flat_meaning.proofs.ExecutionLemmas.{flat_keeps_executions}
use Rattle.bs_flat_meaning.proofs.law.flat_parts_keep_executions.Goals as goal

pub returns : goal.returns
returns c = flat_keeps_executions
