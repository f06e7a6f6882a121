use Rattle.std.proofs.Common.{refl}
use Rattle.bs_inspect_page.proofs.law.cells_are_traced.Goals as goal

pub returns : goal.returns
returns c = λ r opens signed places i. record { flops = refl; inputs = refl }
