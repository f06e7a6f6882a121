use Rattle.bs_top.proofs.DesignLemmas.{netlists_mean_designs}
use Rattle.bs_top.proofs.design.means_design.Goals as goal

pub returns : goal.returns
returns c = record { means = λ path bytes many read. netlists_mean_designs path bytes c.args.net.now.raw many read c.raw-raw.ensures.placed }
