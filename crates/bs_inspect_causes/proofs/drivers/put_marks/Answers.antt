use Rattle.std.proofs.Common.{true, refl, ◌∙◌, arith}
use Rattle.std.proofs.lemmas.List.{length-set}
use Rattle.bs_inspect_causes.proofs.DriverLemmas.{marks_all, marks_put}
use Rattle.bs_inspect_causes.proofs.drivers.put_marks.Goals as goal

pub nets-preserved : goal.nets-preserved
nets-preserved c = record {
  long = length-set c.nets.marks.items _ true ∙ c.nets.invariant.long;
  marked =
      marks_put c.args.nets.now c.nets.net-index _ c.args.marks.now.items c.nets.marks.items (omega (arith, c.nets-test.true)) c.requires.placed
      c.nets.invariant.long c.nets.invariant.marked;
}

pub nets-init : goal.nets-init
nets-init c = record { long = refl; marked = c.requires.none }

pub returns : goal.returns
returns c = marks_all c.args.nets.now c.nets.net-index c.nets.marks.items (omega (arith, c.nets-test.false)) c.nets.invariant.marked
