use Rattle.std.proofs.Common.{arith}
use Rattle.bs_inspect_why_words.proofs.FrontLemmas.{told_there, widest_all, widest_more, widest_same}
use Rattle.bs_inspect_why_words.proofs.group.widest.Goals as goal
use Rattle.bs_inspect_why_words.proofs.group.widest.Goals.{then-most-told, else-most-told}

pub groups-preserved : goal.groups-preserved
groups-preserved c =
    let is =
    told_there c.args.reasons.now c.args.groups.now c.groups.i c.told_in-told.result c.index-groups-i.result (omega (arith, c.groups-test.true)) c.index-groups-i.is
    c.told_in-told.ensures in
    elim c.if-most-told.branch [
      | then-most-told w ↦
          rw w.best-is
          (rw w.most-is
          (widest_more c.args.reasons.now c.args.groups.now c.groups.i c.groups.best c.groups.most c.told_in-told.result c.groups-test.true is (omega (arith, w.if-most-told.true)) c.groups.invariant))
      | else-most-told w ↦
          rw w.best-is
          (rw w.most-is
          (widest_same c.args.reasons.now c.args.groups.now c.groups.i c.groups.best c.groups.most c.told_in-told.result c.groups-test.true is (omega (arith, w.if-most-told.false)) c.groups.invariant))
    ]

pub returns : goal.returns
returns c =
    widest_all c.args.reasons.now c.args.groups.now c.groups.i c.groups.best c.groups.most (omega (arith, c.groups-test.false)) c.groups.invariant
