use Rattle.bs_verilog.proofs.NamedLemmas.{nets_are_named}
use Rattle.bs_verilog.proofs.law.nets_are_named.Goals as goal

pub returns : goal.returns
returns c = nets_are_named
