use Rattle.std.proofs.Common.{subst, sym}
use Rattle.bs_outside.specs.Files.{Files}
use Rattle.bs_top.specs.Texts.{AreTexts}
use Rattle.bs_top.proofs.generated.shelf_with.Goals as goal

pub returns-in-Ok : goal.returns-in-Ok
returns-in-Ok c = subst (λ (l : Files). AreTexts l c.args.job.netlist c.args.job.signature c.args.job.stimulus) (sym c.new-shelf.ensures) c.in-Ok.ensures
