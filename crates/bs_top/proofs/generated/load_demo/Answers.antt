use Rattle.bs_top.proofs.ToldLemmas.{alone_short}
use Rattle.bs_top.proofs.generated.load_demo.Goals as goal

pub returns-in-Err : goal.returns-in-Err
returns-in-Err c = record { line = alone_short _ _; note = alone_short _ _ }
