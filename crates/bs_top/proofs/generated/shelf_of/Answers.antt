use Rattle.bs_top.proofs.ToldLemmas.{texts_are}
use Rattle.bs_top.proofs.generated.shelf_of.Goals as goal

pub returns-in-Ok : goal.returns-in-Ok
returns-in-Ok c = texts_are _ c.in-Ok.ensures.netlist c.in-Ok.ensures.signature c.in-Ok.ensures.stimulus c.shelf_with.ensures
