use Rattle.bs_top.proofs.DesignLemmas.{netlists_mean_designs}
use Rattle.bs_top.proofs.law.netlists_mean_designs.Goals as goal

pub returns : goal.returns
returns c = netlists_mean_designs
