use Rattle.bs_scan.proofs.ChainLemmas.{full_shifts_unload}
use Rattle.bs_scan.proofs.law.full_shifts_unload.Goals as goal

pub returns : goal.returns
returns c = full_shifts_unload
